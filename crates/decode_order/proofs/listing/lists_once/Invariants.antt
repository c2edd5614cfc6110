use Rattle.decode_order.proofs.Prelude.{log_of}
use Rattle.decode_order.proofs.Marks.{OnceSoFar}
use Rattle.decode_order.proofs.listing.lists_once.Given as goal

abbrev pub invariant-loop-node : goal.invariant-loop-node
invariant-loop-node l = OnceSoFar (log_of l.history).nodes l.order l.node-index l.listed.items
