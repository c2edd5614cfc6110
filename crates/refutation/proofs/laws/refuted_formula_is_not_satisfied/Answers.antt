use Rattle.refutation.proofs.Units.{satisfied_given}
use Rattle.refutation.proofs.laws.refuted_formula_is_not_satisfied.Goals as goal

pub returns : goal.returns
returns c = λ f refuted values satisfies. refuted.none values (satisfied_given values f.clauses satisfies.each_clause)
