use Rattle.tell_steps.proofs.Prelude.{◌≡◌, ℕ, ◌<◌, true, is_named}
use Rattle.tell_steps.proofs.whole.first_unnamed.Given as goal

abbrev pub invariant-loop-step : goal.invariant-loop-step
invariant-loop-step l = (k : ℕ) → k < l.step → is_named l.items k ≡ true
