use Rattle.known_graph.proofs.Prelude.{◌≡◌, take, IsKnownGraph}
use Rattle.known_graph.proofs.EndedNodes.{EndsAdded}
use Rattle.known_graph.proofs.moments.add_moment_arcs.Given as goal

abbrev pub invariant-loop-entry : goal.invariant-loop-entry
invariant-loop-entry l = record {
  nodes : l.known.nodes ≡ l.initial.known.nodes;
  graph : IsKnownGraph l.known;
  edges : EndsAdded l.v (take l.entry-index l.entry-items) l.initial.known.edges l.known.edges;
}
