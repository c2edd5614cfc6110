use Rattle.decode_order.proofs.Prelude.{begun_of, ended_of}
use Rattle.decode_order.proofs.LeastEnd.{FromLast}
use Rattle.decode_order.proofs.moments.first_before_ended.Given as goal

abbrev pub invariant-loop-node : goal.invariant-loop-node
invariant-loop-node l = FromLast (ended_of l.history) (begun_of l.history) l.order l.node-iterator.iter.rest.now l.found l.least_end
