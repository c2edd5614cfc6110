use Rattle.known_graph.proofs.Prelude.{inl, arith}
use Rattle.known_graph.proofs.Edges.{known_graph}
use Rattle.known_graph.proofs.graph.Known.add_edge.Goals as goal

pub invariant_of-self : goal.invariant_of-self
invariant_of-self c = known_graph c.set.new.self c.set.ensures.graph (λ v lo hi. (c.set.ensures.edges (0, v)).1 (inl (c.self.invariant.initial v lo (omega (arith, hi, c.set.ensures.nodes)))))

pub returns-clause-edges : goal.returns-clause-edges
returns-clause-edges c = rw (c.get.ensures.value, c.get-2.ensures.value, c.self.view_is) at c.set.ensures.edges

pub returns-clause-graph : goal.returns-clause-graph
returns-clause-graph c = invariant_of-self c
