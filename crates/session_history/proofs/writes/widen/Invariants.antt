use Rattle.session_history.proofs.Prelude.{◌≡◌, ℕ, ◌-◌, ◌+◌, slice_index, vec_len}
use Rattle.session_history.proofs.writes.widen.Given as goal

abbrev pub invariant-loop-lasts : goal.invariant-loop-lasts
invariant-loop-lasts l = (x : ℕ) → slice_index l.lasts.items x ≡ slice_index l.initial.lasts.items x

abbrev pub decreases-loop-lasts : goal.decreases-loop-lasts
decreases-loop-lasts l = l.key + 1 - vec_len l.lasts
