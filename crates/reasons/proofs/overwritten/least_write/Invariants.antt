use Rattle.reasons.proofs.Prelude.{log_of, IsLeastWrite}
use Rattle.reasons.proofs.overwritten.least_write.Given as goal

abbrev pub invariant-loop-place : goal.invariant-loop-place
invariant-loop-place l = IsLeastWrite (log_of l.history) l.a l.b l.place l.least
