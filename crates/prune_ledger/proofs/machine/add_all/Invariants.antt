use Rattle.prune_ledger.proofs.Prelude.{take}
use Rattle.prune_ledger.proofs.Edges.{Added}
use Rattle.prune_ledger.proofs.machine.add_all.Given as goal

abbrev pub invariant-loop-edge : goal.invariant-loop-edge
invariant-loop-edge l = Added l.fn.graph l.graph (take l.edge-index l.side)
