use Rattle.cube_machine.proofs.Prelude.{◌∙◌, [], ◌∷◌, ap, length, subst, arith, Graph, root, AreNoted}
use Rattle.cube_machine.proofs.Kept.{kept_first}
use Rattle.cube_machine.proofs.machine.CubeMachine.opening.Goals as goal

pub invariant_of-result : goal.invariant_of-result
invariant_of-result c =
    let room = c.in_ok-tree.ensures.room in let b = c.get.ensures.value in let r = c.get.ensures.range in
    kept_first c.args.polygraph.now c.in_ok-tree.tree c.args.budget c.in_ok-graph.graph c.in_ok-sides.sides.items c.in_ok-decided.decided.items
    c.in_ok-tree.ensures.nodes (omega (arith, room, b)) (omega (arith, r)) (ap (λ (g : Graph). g.nodes) (c.in_ok-graph.ensures.same ∙ c.known.ensures)) c.in_ok-sides.ensures.sides c.in_ok-decided.ensures.seats
    (subst (λ n. AreNoted (root ∷ []) n c.in_ok-decided.decided.items) (ap length c.choices.ensures.choices) c.in_ok-decided.ensures.noted)
