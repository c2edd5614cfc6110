use Rattle.coalesce.proofs.Prelude.{◌≡◌, take, IsWith}
use Rattle.coalesce.proofs.known.add_edges.Given as goal

abbrev pub invariant-loop-edge : goal.invariant-loop-edge
invariant-loop-edge l = record {
  edges : IsWith l.initial.known.edges (take l.edge-index l.edges) l.known.edges;
  nodes : l.known.nodes ≡ l.initial.known.nodes;
}
