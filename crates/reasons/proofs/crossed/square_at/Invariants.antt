use Rattle.reasons.proofs.Prelude.{ℕ, take, Contains, NoSquareOf}
use Rattle.reasons.proofs.crossed.square_at.Given as goal

abbrev pub invariant-loop-version : goal.invariant-loop-version
invariant-loop-version l = (u : ℕ) → Contains (take l.version-index l.writers) u → NoSquareOf l.pairs u
