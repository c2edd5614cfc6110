use Rattle.std.proofs.Common.{◌≡◌, length}
use Rattle.clause_search.proofs.search.Search.values.Given as goal

abbrev pub invariant-loop-before : goal.invariant-loop-before
invariant-loop-before l = length l.values.items ≡ l.before
