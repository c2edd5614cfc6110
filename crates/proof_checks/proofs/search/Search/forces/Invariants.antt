use Rattle.proof_checks.proofs.Prelude.{◌≡◌, true, false, take, [], Literal, is_same, is_among, IsMadeFalse}
use Rattle.proof_checks.proofs.search.Search.forces.Given as goal

abbrev pub invariant-loop-other : goal.invariant-loop-other
invariant-loop-other l = (m : Literal) → is_among (take l.other-index l.clause) m ≡ true → is_same m l.literal ≡ false → IsMadeFalse l.checker.clauses [] m
