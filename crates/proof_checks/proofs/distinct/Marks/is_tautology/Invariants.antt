use Rattle.proof_checks.proofs.Prelude.{◌≡◌, false, take, list_any, is_among, negated}
use Rattle.proof_checks.proofs.distinct.Marks.is_tautology.Given as goal

abbrev pub invariant-loop-literal : goal.invariant-loop-literal
invariant-loop-literal l = list_any (λ m. is_among l.literals (negated m)) (take l.literal-index l.literals) ≡ false
