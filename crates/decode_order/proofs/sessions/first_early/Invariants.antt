use Rattle.decode_order.proofs.Prelude.{log_of}
use Rattle.decode_order.proofs.Turns.{InTurnSoFar}
use Rattle.decode_order.proofs.sessions.first_early.Given as goal

abbrev pub invariant-loop-node : goal.invariant-loop-node
invariant-loop-node l = InTurnSoFar (log_of l.history) l.order l.node-index l.listed.items
