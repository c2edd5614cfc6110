use Rattle.desk.proofs.Prelude.{◌≡◌, vec_len, AreSeated}
use Rattle.desk.proofs.opened.halves.Given as goal

abbrev pub invariant-loop-before : goal.invariant-loop-before
invariant-loop-before g l = AreSeated l.rows.items l.seats.items × (vec_len l.rows ≡ l.before)
