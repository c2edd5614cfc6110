use Rattle.branching.proofs.Prelude.{List, sym, subst, IsCycle}
use Rattle.branching.proofs.Views.{cyclic_in_graph}
use Rattle.branching.proofs.Turned.{refute_answered}
use Rattle.branching.proofs.turns.refutation.Goals as goal

pub unreachable-requires : goal.unreachable-requires
unreachable-requires c =
    let k = cyclic_in_graph c.args.view.now c.graph.result.now c.graph.ensures.edges c.requires.cyclic in
    (rw c.in-None.is at c.in_ok-line.ensures.cycle) k

pub returns-clause-answered : goal.returns-clause-answered
returns-clause-answered c =
    let g = c.graph.result.now in
    let found : IsCycle g.edges c.in-Some.line.items = rw c.in-Some.is at c.in_ok-line.ensures.cycle in
    refute_answered c.args.view.now g c.from_nodes.result c.graph.ensures.edges (subst (λ (l : List _). IsCycle g.edges l) (sym c.from_nodes.ensures.line) found)
