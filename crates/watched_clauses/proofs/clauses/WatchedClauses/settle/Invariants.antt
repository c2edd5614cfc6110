use Rattle.std.proofs.Common.{ℕ}
use Rattle.watched_clauses.specs.Extends.{Extends}
use Rattle.watched_clauses.proofs.clauses.WatchedClauses.settle.Given as goal

abbrev pub invariant-loop-index : goal.invariant-loop-index
invariant-loop-index l = (n : ℕ) → Extends n l.fn.checker.clauses l.checker.clauses
