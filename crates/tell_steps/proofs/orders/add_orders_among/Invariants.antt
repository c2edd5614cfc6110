use Rattle.tell_steps.proofs.Prelude.{◌≡◌, ◌++◌, drop, map, chain_view, orders_among}
use Rattle.tell_steps.proofs.orders.add_orders_among.Given as goal

abbrev pub invariant-loop-index : goal.invariant-loop-index
invariant-loop-index l = l.orders.items ++ orders_among l.key (map chain_view (drop l.index l.chains)) ≡ l.initial.orders.items ++ orders_among l.key (map chain_view l.chains)
