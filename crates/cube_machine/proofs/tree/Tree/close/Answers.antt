use Rattle.cube_machine.proofs.Prelude.{◌≡◌, ◌∙◌, Some, subst, sym, ap, arith, slice_get_read, held_from, Growth, ◌||◌}
use Rattle.cube_machine.proofs.Cubes.{mark_written}
use Rattle.cube_machine.proofs.Seats.{slot_at}
use Rattle.cube_machine.proofs.Trees.{tree_close, held_below}
use Rattle.cube_machine.proofs.tree.Tree.close.Goals as goal

pub index_mut-requires : goal.index_mut-requires
index_mut-requires c =
    let i = c.self.inside in let xs = i.nodes in
    let h = subst (λ (s : Growth). held_from c.args.seat 0 s.nodes ≡ Some c.args.id) (sym c.self.view_is) c.requires.held in
    let le = c.get.ensures.range in let o = xs.ok.0 in
    let lt = held_below xs.items i.open_nodes.items i.held i.solved c.args.seat c.args.id c.self.invariant.0 (omega (arith, le)) h in
    omega (arith, lt, o)

pub invariant_of-self : goal.invariant_of-self
invariant_of-self c =
    let i = c.self.inside in let xs = i.nodes in
    let h = subst (λ (s : Growth). held_from c.args.seat 0 s.nodes ≡ Some c.args.id) (sym c.self.view_is) c.requires.held in
    let le = c.get.ensures.range in let o = xs.ok.0 in
    let lt = held_below xs.items i.open_nodes.items i.held i.solved c.args.seat c.args.id c.self.invariant.0 (omega (arith, le)) h in
    let at = slice_get_read xs.items xs.len c.args.id c.index_mut.result.now o (omega (arith, lt, o)) c.index_mut.ensures.value in
    let n = c.from-slot.ensures ∙ c.get.ensures.value in
    let s = slot_at xs.items i.open_nodes.items i.held i.solved c.args.seat (Some c.args.id) c.self.invariant.0 (omega (arith, le)) h in
    let q = c.self.invariant.1 in
    (rw n (tree_close xs.items i.open_nodes.items i.held i.solved c.self.invariant.0 c.args.seat c.args.id c.index_mut.result.now c.args.mark at s c.requires.closed (i.solved || c.is_solved-solved.result) (ap (λ b. i.solved || b) c.is_solved-solved.ensures)), omega (arith, q))

pub returns-clause-nodes : goal.returns-clause-nodes
returns-clause-nodes c =
    let i = c.self.inside in let xs = i.nodes in
    let h = subst (λ (s : Growth). held_from c.args.seat 0 s.nodes ≡ Some c.args.id) (sym c.self.view_is) c.requires.held in
    let le = c.get.ensures.range in let o = xs.ok.0 in
    let lt = held_below xs.items i.open_nodes.items i.held i.solved c.args.seat c.args.id c.self.invariant.0 (omega (arith, le)) h in
    let at = slice_get_read xs.items xs.len c.args.id c.index_mut.result.now o (omega (arith, lt, o)) c.index_mut.ensures.value in
    rw (← c.self.view_is) (mark_written xs.items c.args.id c.index_mut.result.now c.args.mark at)
