use Rattle.known_graph.proofs.Prelude.{◌≡◌, ◌+◌, ◌++◌, IsKnownGraph}
use Rattle.known_graph.proofs.Rests.{up_to}
use Rattle.known_graph.proofs.Rows.{edges_from, edges_to}
use Rattle.known_graph.proofs.graph.Known.edges.Given as goal

abbrev pub invariant-loop-from : goal.invariant-loop-from
invariant-loop-from l = (k : IsKnownGraph l.self) → l.edges.items ++ edges_from k.test l.self.nodes (up_to l.from l.end) ≡ l.self.edges

abbrev pub invariant-loop-to : goal.invariant-loop-to
invariant-loop-to l =
    (k : IsKnownGraph l.self) → l.edges.items ++ (edges_to k.test l.from (up_to l.to l.end) ++ edges_from k.test l.self.nodes (up_to (l.from + 1) l.end)) ≡ l.self.edges
