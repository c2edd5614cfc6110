use Rattle.decode_order.proofs.Prelude.{before, cnf_of}
use Rattle.decode_order.proofs.Placing.{Placed}
use Rattle.decode_order.proofs.decode.order_of.Given as goal

abbrev pub invariant-loop-number : goal.invariant-loop-number
invariant-loop-number l = Placed l.formula.nodes (before (cnf_of l.formula) l.values) l.order.items l.number
