use Rattle.session_history.proofs.Prelude.{AreRows, no_row}
use Rattle.session_history.proofs.rows.empty_rows.Given as goal

abbrev pub invariant-loop-i : goal.invariant-loop-i
invariant-loop-i l = AreRows l.i (λ _. no_row) l.rows.items
