use Rattle.coalesce.proofs.Prelude.{◌≡◌, log_of, so_far}
use Rattle.coalesce.proofs.Between.{of_key}
use Rattle.coalesce.proofs.choices.choices_of.Given as goal

abbrev pub invariant-loop-key : goal.invariant-loop-key
invariant-loop-key l = l.choices.items ≡ so_far (of_key (log_of l.chains)) l.key
