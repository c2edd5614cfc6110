use Rattle.order_cnf.proofs.Prelude.{refl}
use Rattle.order_cnf.proofs.relation.Relation.of.Goals as goal

pub invariant_of-result : goal.invariant_of-result
invariant_of-result c = (c.in_ok-table.ensures.table _ refl c.requires.strict, c.in_ok-table.ensures.count _ refl, c.in_ok-pairs.ensures.pairs)
