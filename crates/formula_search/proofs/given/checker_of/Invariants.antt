use Rattle.std.proofs.Common.{◌≡◌, ◌+◌, ◌++◌, Some, map}
use Rattle.refutation.specs.Known.{all_open}
use Rattle.formula_search.proofs.given.checker_of.Given as goal

abbrev pub invariant-loop-clause : goal.invariant-loop-clause
invariant-loop-clause l = record {
  clauses : l.checker.clauses ++ map Some l.clause-iterator ≡ map Some l.formula.clauses;
  known : l.checker.known ≡ all_open (l.formula.variables + 1);
}
