use Rattle.coalesce.proofs.Prelude.{◌≡◌, take, map, IsWith}
use Rattle.coalesce.proofs.known.add_edges_to.Given as goal

abbrev pub invariant-loop-source : goal.invariant-loop-source
invariant-loop-source l = record {
  edges : IsWith l.initial.known.edges (map (λ u. (u, l.target)) (take l.source-index l.sources)) l.known.edges;
  nodes : l.known.nodes ≡ l.initial.known.nodes;
}
