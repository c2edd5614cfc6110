use Rattle.order_laws.proofs.Prelude.{ap, Cnf, before}
use Rattle.order_laws.proofs.Same.{same_formula}
use Rattle.order_laws.proofs.laws.one_reduced_formula.Goals as goal

pub returns : goal.returns
returns c = record {
  variables = λ p forced same known knows f g is are. ap (λ (formula : Cnf). formula.variables) (same_formula p forced same known knows f g is are);
  clauses = λ p forced same known knows f g is are. ap (λ (formula : Cnf). formula.clauses) (same_formula p forced same known knows f g is are);
  before = λ p forced same known knows f g is are values u v. ap (λ (formula : Cnf). before formula values u v) (same_formula p forced same known knows f g is are);
}
