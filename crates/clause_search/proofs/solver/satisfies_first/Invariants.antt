use Rattle.clause_search.specs.Founds.{AreTrue}
use Rattle.clause_search.proofs.solver.satisfies_first.Given as goal

abbrev pub invariant-loop-number : goal.invariant-loop-number
invariant-loop-number l = AreTrue l.number l.checker.clauses l.values
