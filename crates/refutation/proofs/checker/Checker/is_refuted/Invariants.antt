use Rattle.refutation.proofs.Prelude.{◌≡◌, ℕ, ◌<◌, [], Some, clause_at}
use Rattle.refutation.proofs.checker.Checker.is_refuted.Given as goal

abbrev pub invariant-loop-number : goal.invariant-loop-number
invariant-loop-number l = (k : ℕ) → k < l.number → clause_at l.self-inside.clauses k ≡ Some [] → ⊥
