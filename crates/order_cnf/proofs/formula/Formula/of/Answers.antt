use Rattle.order_cnf.proofs.Prelude.{refl}
use Rattle.order_cnf.proofs.formula.Formula.of.Goals as goal

pub invariant_of-result : goal.invariant_of-result
invariant_of-result c = record {
  formula = c.requires.sound (c.in-Some.ensures.none.0 refl);
  numbered = c.requires.numbered;
  few_variables = c.requires.few;
  counted = c.in-Some.ensures.some;
}
