use Rattle.tell_trees.proofs.Prelude.{◌≡◌, ◌<◌, ℕ, ◌∷◌, List, Option, Some, length, get_or, sym, ap, ◌∙◌, arith, Vec, option_map, get_or_read, One, Two, without_runs, Growth, Leaf, Inner, round_view, turned, Waiting, no_order, order_at}
use Rattle.tell_trees.proofs.Prelude.{round_at}
use Rattle.std.specs.declared.alloc.Global.{Global}
use Rattle.tell_trees.proofs.Counted.{grown_at, left_next, leaf_next, split_next, less_left, less_split}
use Rattle.tell_trees.proofs.visits.visits.Goals as goal
use Rattle.tell_trees.proofs.visits.visits.Goals.{then-is_told+in-Leaf+in_ok-without_runs-in-Leaf, then-is_told+in-Inner+in_ok-two-in-Inner+in_ok-one-in-Inner+in_ok-push-in-Inner+in_ok-push-in-Inner-2, else-is_told}

pub bounds-orders-get : goal.bounds-orders-get
bounds-orders-get c =
    let t = c.requires.tree in let v = c.in-Some.field-0 in let x = c.index-nodes-node.result in let nodes = c.args.nodes.now in
    let grows : Growth = Inner c.in-Inner.choice c.in-Inner.first c.in-Inner.second in
    let g = grown_at c.args.history.now c.args.orders.now nodes t c.pop.new.self.items v c.in-Some.ensures.items c.loop-node.invariant x grows c.in-Inner.is in
    let choice = (t.shown.inner v.node g.node c.in-Inner.choice c.in-Inner.first c.in-Inner.second g.here g.is).choice in
    omega (arith, choice, t.count, c.get.ensures.value)

pub loop-node-smaller : goal.loop-node-smaller
loop-node-smaller c =
    let ss = c.args.history.now in let orders = c.args.orders.now in let nodes = c.args.nodes.now in let t = c.requires.tree in
    let v = c.in-Some.field-0 in let rest = c.pop.new.self.items in let popped = c.in-Some.ensures.items in let u = c.loop-node.invariant in
    elim c.if-is_told.branch [
      | then-is_told+in-Leaf+in_ok-without_runs-in-Leaf w ↦ rw w.waiting-is (less_left ss orders nodes t rest v popped u)
      | then-is_told+in-Inner+in_ok-two-in-Inner+in_ok-one-in-Inner+in_ok-push-in-Inner+in_ok-push-in-Inner-2 w ↦
          let x = w.index-nodes-node.result in
          let one : Waiting = record { node = w.in-Inner.first; decided = w.in_ok-one-in-Inner.one } in
          let two : Waiting = record { node = w.in-Inner.second; decided = w.in_ok-two-in-Inner.two } in
          let grows : Growth = Inner w.in-Inner.choice one.node two.node in
          let g = grown_at ss orders nodes t rest v popped u x grows w.in-Inner.is in
          rw (w.waiting-is, w.in_ok-push-in-Inner-2.ensures.items, w.in_ok-push-in-Inner.ensures.items) (less_split ss orders nodes t rest v popped u w.in-Inner.choice one two g)
      | else-is_told w ↦ rw w.waiting-is (less_left ss orders nodes t rest v popped u)
    ]

pub loop-node-preserved : goal.loop-node-preserved
loop-node-preserved c =
    let ss = c.args.history.now in let orders = c.args.orders.now in let nodes = c.args.nodes.now in let t = c.requires.tree in
    let v = c.in-Some.field-0 in let rest = c.pop.new.self.items in let popped = c.in-Some.ensures.items in let u = c.loop-node.invariant in
    let r = c.in_ok-round_of.field-0 in
    let items : Option (Vec ℕ Global) → Option (List ℕ) = option_map (λ (l : Vec ℕ Global). l.items) in
    let line = items c.if-is_told.line in
    let is : round_view r ≡ round_at v.decided.items line = c.in_ok-round_of.ensures in
    elim c.if-is_told.branch [
      | then-is_told+in-Leaf+in_ok-without_runs-in-Leaf w ↦
          let x = w.index-nodes-node.result in
          let cycle = w.nodes.result.now in
          let grows : Growth = Leaf cycle in
          let g = grown_at ss orders nodes t rest v popped u x grows (w.in-Leaf.is ∙ ap Leaf (sym w.nodes.ensures.nodes)) in
          let told : line ≡ Some (without_runs ss cycle) = ap items w.line-is ∙ ap Some w.in_ok-without_runs-in-Leaf.ensures in
          rw (c.in_ok-push-3.ensures.items, w.waiting-is, w.leaves-is) (leaf_next ss orders nodes t rest v popped u r line is cycle told w.if-is_told.true g)
      | then-is_told+in-Inner+in_ok-two-in-Inner+in_ok-one-in-Inner+in_ok-push-in-Inner+in_ok-push-in-Inner-2 w ↦
          let x = w.index-nodes-node.result in
          let choice = w.in-Inner.choice in
          let one : Waiting = record { node = w.in-Inner.first; decided = w.in_ok-one-in-Inner.one } in
          let two : Waiting = record { node = w.in-Inner.second; decided = w.in_ok-two-in-Inner.two } in
          let grows : Growth = Inner choice one.node two.node in
          let g = grown_at ss orders nodes t rest v popped u x grows w.in-Inner.is in
          let below = (t.shown.inner v.node g.node choice one.node two.node g.here g.is).choice in
          let within : w.get.result < length orders = omega (arith, below, t.count, w.get.ensures.value) in
          let order : w.index-orders-get.result ≡ order_at orders (choice, One) = get_or_read orders w.get.result w.index-orders-get.result within w.index-orders-get.is no_order ∙ ap (λ (k : ℕ). get_or orders k no_order) w.get.ensures.value in
          let first : one.decided.items ≡ order_at orders (choice, One) ∷ v.decided.items = w.in_ok-one-in-Inner.ensures ∙ (λ z. order z ∷ w.deref-in-Inner.ensures.value z) in
          let second : two.decided.items ≡ order_at orders (choice, Two) ∷ v.decided.items = w.in_ok-two-in-Inner.ensures ∙ (λ z. (w.turned.ensures.order ∙ ap turned order) z ∷ w.deref.ensures.value z) in
          rw (c.in_ok-push-3.ensures.items, w.waiting-is, w.leaves-is, w.in_ok-push-in-Inner-2.ensures.items, w.in_ok-push-in-Inner.ensures.items) (split_next ss orders nodes t rest v popped u r line is choice one two (ap items w.line-is) first second g)
      | else-is_told w ↦ rw (c.in_ok-push-3.ensures.items, w.waiting-is, w.leaves-is) (left_next ss orders nodes t rest v popped u r line is (ap items w.line-is) w.if-is_told.false)
    ]
