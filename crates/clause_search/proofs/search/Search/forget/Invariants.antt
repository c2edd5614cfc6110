use Rattle.watched_clauses.specs.Extends.{Extends}
use Rattle.clause_search.proofs.search.Search.forget.Given as goal

abbrev pub invariant-loop-index : goal.invariant-loop-index
invariant-loop-index l = Extends l.given l.fn.checker.clauses l.checker.clauses
