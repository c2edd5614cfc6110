use Rattle.tree_checks.proofs.Prelude.{◌∙◌, sym, ap, has_edge, cube_of}
use Rattle.reach_laws.specs.Reach.{Graph}
use Rattle.tree_checks.proofs.Inherited.{step_added}
use Rattle.tree_checks.proofs.checking.has_step.Goals as goal

pub returns-else-has_edge : goal.returns-else-has_edge
returns-else-has_edge c =
    let known = ap (λ (k : Graph). has_edge k.edges (c.args.u, c.args.v)) (sym c.known.ensures) in
    c.is_added.ensures ∙ sym (step_added c.args.polygraph.now (cube_of c.args.nodes.now c.args.number) (c.args.u, c.args.v) (known ∙ sym c.has_edge.ensures.test ∙ c.if-has_edge.false))
