use Rattle.order_text.proofs.Prelude.{◌≡◌, take, order_text}
use Rattle.order_text.proofs.print.print_order.Given as goal

abbrev pub invariant-loop-node : goal.invariant-loop-node
invariant-loop-node l = l.out.items ≡ order_text l.history (take l.node-index l.node-items)
