use Rattle.order_cnf.proofs.Prelude.{◌+◌, rows_known}
use Rattle.order_cnf.proofs.Numbered.{IsNumbered}
use Rattle.order_cnf.proofs.relation.number_pairs.Given as goal

abbrev pub invariant-loop-high : goal.invariant-loop-high
invariant-loop-high l = IsNumbered (record { nodes = l.nodes; known = rows_known l.rows }) l.table.items l.variables l.low l.high

abbrev pub invariant-loop-low : goal.invariant-loop-low
invariant-loop-low l = IsNumbered (record { nodes = l.nodes; known = rows_known l.rows }) l.table.items l.variables l.low (l.low + 1)
