use Rattle.cube_machine.proofs.Prelude.{◌∙◌, ◌++◌, arith, cube_in, cube_edges}
use Rattle.cube_machine.proofs.Edges.{side_more, sides_all, under_is}
use Rattle.cube_machine.proofs.sides.fill.Goals as goal

pub loop-origin-preserved : goal.loop-origin-preserved
loop-origin-preserved c =
    let p = c.args.polygraph.now in let nodes = c.args.tree.now.nodes in let o = c.in-Some.origin in
    let w = c.in-Some.ensures.way in
    let lt = w.earlier in let within = c.loop-origin.invariant.within in
    record {
      within = omega (arith, lt, within);
      nodes = c.add_side.ensures.nodes ∙ c.loop-origin.invariant.nodes;
      edges = side_more p c.loop-origin.graph.edges c.add_side.new.graph.edges (p.known ++ cube_edges p (cube_in nodes c.args.id)) (cube_in nodes c.loop-origin.at) (cube_in nodes o.parent) o.choice o.side w.cube c.loop-origin.invariant.edges c.add_side.ensures.edges;
    }

pub returns-clause-edges : goal.returns-clause-edges
returns-clause-edges c =
    let p = c.args.polygraph.now in let nodes = c.args.tree.now.nodes in
    let all = sides_all p c.loop-origin.graph.edges (p.known ++ cube_edges p (cube_in nodes c.args.id)) (cube_in nodes c.loop-origin.at) c.in_default.ensures.way c.loop-origin.invariant.edges in
    record { same = λ e. all e ∙ under_is p (cube_in nodes c.args.id) e }
