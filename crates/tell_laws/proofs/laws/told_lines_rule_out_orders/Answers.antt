use Rattle.std.proofs.Common.{[], arith}
use Rattle.tell_laws.proofs.Told.{cycles_are_leaves, steps_stand, line_before, dead_refuted, tree_refuted}
use Rattle.tell_laws.proofs.laws.told_lines_rule_out_orders.Goals as goal

pub returns : goal.returns
returns c = record {
  steps = steps_stand;
  cycle = λ ss well start inner items line order is. (let before = line_before ss order well is [] [] tt tt start start inner items line in omega (arith, before));
  dead = λ ss well items t order is. dead_refuted ss order well is items t;
  tree = λ ss well choices nodes items t less order is. tree_refuted ss order well is choices nodes items t less;
  counted = cycles_are_leaves;
}
