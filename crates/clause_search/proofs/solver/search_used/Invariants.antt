use Rattle.watched_clauses.specs.Extends.{Extends}
use Rattle.clause_search.proofs.solver.search_used.Given as goal

abbrev pub invariant-loop : goal.invariant-loop
invariant-loop l = Extends l.given l.fn.checker.clauses l.checker.clauses
