use Rattle.reasons.proofs.Prelude.{ℕ, ◌<◌, log_of, NoSquare}
use Rattle.reasons.proofs.crossed.square_in.Given as goal

abbrev pub invariant-loop-key : goal.invariant-loop-key
invariant-loop-key l = (k : ℕ) → k < l.key → NoSquare (log_of l.history) k
