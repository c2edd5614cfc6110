use Rattle.prune_ledger.proofs.Prelude.{take, AreRowsOf}
use Rattle.prune_ledger.proofs.Edges.{Added}
use Rattle.prune_ledger.proofs.rowed.add_edges.Given as goal

abbrev pub invariant-loop-edge : goal.invariant-loop-edge
invariant-loop-edge l = record {
  edges : Added l.fn.graph l.graph (take l.edge-index l.edges);
  rows : AreRowsOf l.rows l.graph;
}
