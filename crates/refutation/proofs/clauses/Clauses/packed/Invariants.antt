use Rattle.refutation.proofs.Prelude.{◌≡◌, take}
use Rattle.refutation.proofs.clauses.Clauses.packed.Given as goal

abbrev pub invariant-loop-number : goal.invariant-loop-number
invariant-loop-number l = l.packed ≡ take l.number l.self
