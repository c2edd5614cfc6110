use Rattle.cube_machine.proofs.Prelude.{◌≡◌, ◌∙◌, Some, subst, sym, arith, slice_get_read, held_from, Open, Growth}
use Rattle.cube_machine.proofs.Cubes.{mark_written}
use Rattle.cube_machine.proofs.Places.{IsPlace}
use Rattle.cube_machine.proofs.Seats.{slot_at}
use Rattle.cube_machine.proofs.Trees.{tree_reopen, held_below, fewer_listed, listed_ascending}
use Rattle.cube_machine.proofs.tree.Tree.reopen.Goals as goal

pub index_mut-requires : goal.index_mut-requires
index_mut-requires c =
    let i = c.self.inside in let xs = i.nodes in
    let h = subst (λ (s : Growth). held_from c.args.seat 0 s.nodes ≡ Some c.args.id) (sym c.self.view_is) c.requires.held in
    let le = c.get.ensures.range in let o = xs.ok.0 in
    let lt = held_below xs.items i.open_nodes.items i.held i.solved c.args.seat c.args.id c.self.invariant.0 (omega (arith, le)) h in
    omega (arith, lt, o)

pub place_of-place-requires : goal.place_of-place-requires
place_of-place-requires c =
    let i = c.self.inside in
    record { ascending = rw c.deref.ensures.value (listed_ascending i.nodes.items i.open_nodes.items i.held i.solved c.self.invariant.0) }

pub unwrap-requires : goal.unwrap-requires
unwrap-requires c =
    let i = c.self.inside in let xs = i.nodes in
    let h = subst (λ (s : Growth). held_from c.args.seat 0 s.nodes ≡ Some c.args.id) (sym c.self.view_is) c.requires.held in
    let le = c.get.ensures.range in let o = xs.ok.0 in
    let lt = held_below xs.items i.open_nodes.items i.held i.solved c.args.seat c.args.id c.self.invariant.0 (omega (arith, le)) h in
    let f = fewer_listed xs.items i.open_nodes.items i.held i.solved c.args.seat c.args.id c.self.invariant.0 (omega (arith, le)) h in
    let p = i.open_nodes.ok in let k = xs.ok in let q = c.self.invariant.1 in
    c.insert.ensures.succeeds (omega (arith, f, q))

pub invariant_of-self : goal.invariant_of-self
invariant_of-self c =
    let i = c.self.inside in let xs = i.nodes in
    let h = subst (λ (s : Growth). held_from c.args.seat 0 s.nodes ≡ Some c.args.id) (sym c.self.view_is) c.requires.held in
    let le = c.get.ensures.range in let o = xs.ok.0 in
    let lt = held_below xs.items i.open_nodes.items i.held i.solved c.args.seat c.args.id c.self.invariant.0 (omega (arith, le)) h in
    let at = slice_get_read xs.items xs.len c.args.id c.index_mut.result.now o (omega (arith, lt, o)) c.index_mut.ensures.value in
    let e = c.place_of-place.ensures in
    let w = subst (λ l. IsPlace c.args.id l c.place_of-place.result) c.deref.ensures.value (record { within = e.within; below = e.below; above = e.above }) in
    let n = c.from-slot.ensures ∙ c.get.ensures.value in
    let s = slot_at xs.items i.open_nodes.items i.held i.solved c.args.seat (Some c.args.id) c.self.invariant.0 (omega (arith, le)) h in
    let put = rw c.unwrap.ensures at c.insert.ensures.items in
    let k = c.insert.ensures.capacity in let q = c.self.invariant.1 in
    (rw (put, n) (tree_reopen xs.items i.open_nodes.items i.held i.solved c.self.invariant.0 c.args.seat c.args.id c.place_of-place.result c.index_mut.result.now at s w), omega (arith, k, q))

pub returns-clause-nodes : goal.returns-clause-nodes
returns-clause-nodes c =
    let i = c.self.inside in let xs = i.nodes in
    let h = subst (λ (s : Growth). held_from c.args.seat 0 s.nodes ≡ Some c.args.id) (sym c.self.view_is) c.requires.held in
    let le = c.get.ensures.range in let o = xs.ok.0 in
    let lt = held_below xs.items i.open_nodes.items i.held i.solved c.args.seat c.args.id c.self.invariant.0 (omega (arith, le)) h in
    let at = slice_get_read xs.items xs.len c.args.id c.index_mut.result.now o (omega (arith, lt, o)) c.index_mut.ensures.value in
    rw (← c.self.view_is) (mark_written xs.items c.args.id c.index_mut.result.now Open at)
