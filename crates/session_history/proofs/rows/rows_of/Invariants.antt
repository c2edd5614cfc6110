use Rattle.session_history.proofs.Prelude.{map, take, AreRows, row_from, no_row}
use Rattle.session_history.proofs.rows.rows_of.Given as goal

abbrev pub invariant-loop-i : goal.invariant-loop-i
invariant-loop-i l = AreRows l.keys (λ x. row_from no_row x 1 (map (λ node. node.events.items) (take l.i l.nodes))) l.rows.items
