use Rattle.tell_steps.proofs.Prelude.{◌≡◌, log_of, so_far}
use Rattle.tell_steps.proofs.Chosen.{of_key}
use Rattle.tell_steps.proofs.orders.choice_orders.Given as goal

abbrev pub invariant-loop-key : goal.invariant-loop-key
invariant-loop-key l = l.orders.items ≡ so_far (of_key (log_of l.chains)) l.key
