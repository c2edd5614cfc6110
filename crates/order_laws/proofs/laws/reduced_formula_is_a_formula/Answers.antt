use Rattle.order_laws.proofs.Clauses.{is_formula}
use Rattle.order_laws.proofs.laws.reduced_formula_is_a_formula.Goals as goal

pub returns : goal.returns
returns c = is_formula
