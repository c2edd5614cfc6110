use Rattle.desk.proofs.Prelude.{HasSeatsTo}
use Rattle.desk.proofs.desk.missing_seat.Given as goal

abbrev pub invariant-loop-before : goal.invariant-loop-before
invariant-loop-before g l = HasSeatsTo l.before l.lefts
