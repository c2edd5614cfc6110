use Rattle.proof_checks.proofs.Prelude.{ℕ, ◌<◌, Contains}
use Rattle.proof_checks.proofs.plain.numbers_below.Given as goal

abbrev pub invariant-loop-number : goal.invariant-loop-number
invariant-loop-number l = (k : ℕ) → k < l.number → Contains l.numbers.items k
