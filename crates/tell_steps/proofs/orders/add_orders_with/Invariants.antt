use Rattle.tell_steps.proofs.Prelude.{◌≡◌, ◌++◌, take, map, chain_view, order_to}
use Rattle.tell_steps.proofs.orders.add_orders_with.Given as goal

abbrev pub invariant-loop-other : goal.invariant-loop-other
invariant-loop-other l = l.orders.items ≡ l.initial.orders.items ++ map (order_to l.key l.first) (map chain_view (take l.other-index l.others))
