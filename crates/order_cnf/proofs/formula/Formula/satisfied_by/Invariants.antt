use Rattle.order_cnf.proofs.Passed.{IsPassed}
use Rattle.order_cnf.proofs.formula.Formula.satisfied_by.Given as goal

abbrev pub invariant-loop-clause : goal.invariant-loop-clause
invariant-loop-clause l = IsPassed l.values l.self.clauses l.clause-iterator l.number
