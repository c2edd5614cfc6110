use Rattle.decode_order.proofs.Mismatch.{ReplayedSoFar}
use Rattle.decode_order.proofs.reads.replay_node.Given as goal

abbrev pub invariant-loop-index : goal.invariant-loop-index
invariant-loop-index l = ReplayedSoFar l.fn.store l.events l.index l.store
