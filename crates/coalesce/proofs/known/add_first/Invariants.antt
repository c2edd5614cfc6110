use Rattle.coalesce.proofs.Prelude.{◌≡◌, take, map, flat_map, chain_view, IsWith, before}
use Rattle.coalesce.proofs.known.add_first.Given as goal

abbrev pub invariant-loop-other : goal.invariant-loop-other
invariant-loop-other l = record {
  edges : IsWith l.initial.known.edges (flat_map (before (chain_view l.first)) (map chain_view (take l.other-index l.others))) l.known.edges;
  nodes : l.known.nodes ≡ l.initial.known.nodes;
}
