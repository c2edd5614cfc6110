use Rattle.session_history.proofs.Prelude.{◌≡◌, ℕ, slice_index, take, unwrap_or, last_write}
use Rattle.session_history.proofs.writes.Writes.keep_lasts.Given as goal

abbrev pub invariant-loop-event : goal.invariant-loop-event
invariant-loop-event l = (x : ℕ) → slice_index l.lasts.items x ≡ unwrap_or (last_write x (take l.event-index l.events)) (slice_index l.initial.lasts.items x)
