use Rattle.reach_rows.proofs.Growing.{IsGrownTo}
use Rattle.reach_rows.proofs.bit_rows.add_reach.Given as goal

abbrev pub invariant-loop-x : goal.invariant-loop-x
invariant-loop-x l = IsGrownTo l.initial.table l.table l.u l.v l.x
