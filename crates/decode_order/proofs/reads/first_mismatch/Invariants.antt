use Rattle.decode_order.proofs.Prelude.{log_of}
use Rattle.decode_order.proofs.Mismatch.{NodesReplayed}
use Rattle.decode_order.proofs.reads.first_mismatch.Given as goal

abbrev pub invariant-loop-node : goal.invariant-loop-node
invariant-loop-node l = NodesReplayed (log_of l.history).ops l.order l.node-index (log_of l.history).keys l.store
