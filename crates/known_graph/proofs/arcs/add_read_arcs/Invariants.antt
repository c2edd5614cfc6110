use Rattle.known_graph.proofs.Prelude.{◌≡◌, ◌⊎◌, ◌↔◌, true, take, Contains, Edge, IsKnownGraph}
use Rattle.known_graph.proofs.ArcSets.{is_source}
use Rattle.known_graph.proofs.arcs.add_read_arcs.Given as goal

abbrev pub invariant-loop-read : goal.invariant-loop-read
invariant-loop-read l = record {
  nodes : l.known.nodes ≡ l.initial.known.nodes;
  graph : IsKnownGraph l.known;
  edges : (e : Edge) → (Contains l.known.edges e ↔ (Contains l.initial.known.edges e ⊎ ((e.1 ≡ l.v) × (is_source (λ r. r.source) (take l.read-index l.read-items) e.0 ≡ true))));
}
