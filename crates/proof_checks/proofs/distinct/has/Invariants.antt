use Rattle.proof_checks.proofs.Prelude.{◌≡◌, false, take, list_any, is_same}
use Rattle.proof_checks.proofs.distinct.has.Given as goal

abbrev pub invariant-loop-other : goal.invariant-loop-other
invariant-loop-other l = list_any (is_same l.literal) (take l.other-index l.literals) ≡ false
