use Rattle.decode_order.proofs.Prelude.{◌≡◌, ◌+◌, ◌-◌, Bool, ℕ, sym, subst, arith, slice_set, before, IsOrder, IsDecoded, cnf_of}
use Rattle.decode_order.proofs.Placing.{Placed, placed_more, decoded_where_placed}
use Rattle.decode_order.proofs.decode.order_of.Goals as goal

pub loop-number-preserved : goal.loop-number-preserved
loop-number-preserved c =
    let n = c.args.formula.now.nodes in
    let r : ℕ → ℕ → Bool = before (cnf_of c.args.formula.now) c.args.values.now in
    let o : IsOrder n r = c.nodes-n.ensures.sound.orders c.args.values.now c.requires.satisfied in
    let v = c.node-node.result in
    let at : v ≡ c.loop-number.number = c.node-node.ensures.value in
    let items = c.loop-number.order.items in
    let so_far : Placed n r items v = subst (Placed n r items) (sym at) c.loop-number.invariant in
    let more = placed_more n r o items v (omega (arith, at, c.loop-number.auto.number)) (omega (arith, at, c.loop-number-test.true, c.nodes-n.ensures.count)) so_far in
    let at_place = subst (λ k. Placed n r (slice_set items (k - 1) v) (v + 1)) (sym c.nodes_before-place.ensures.count) more in
    subst (λ k. Placed n r (slice_set items (c.nodes_before-place.result - 1) v) (k + 1)) at at_place

pub returns : goal.returns
returns c =
    let n = c.args.formula.now.nodes in
    let r : ℕ → ℕ → Bool = before (cnf_of c.args.formula.now) c.args.values.now in
    let o : IsOrder n r = c.nodes-n.ensures.sound.orders c.args.values.now c.requires.satisfied in
    let items = c.loop-number.order.items in
    let last : c.loop-number.number ≡ n + 1 = omega (arith, c.loop-number-test.false, c.nodes-n.ensures.count, c.loop-number.auto.number-end) in
    record {
      order = subst (IsDecoded n r) (sym c.from_nodes.ensures.line)
          (decoded_where_placed n r o items (subst (Placed n r items) last c.loop-number.invariant));
    }
