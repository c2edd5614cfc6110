use Rattle.std.proofs.Common.{◌≡◌}
use Rattle.gather.proofs.worker.work.Given as goal

abbrev pub invariant-loop : goal.invariant-loop
invariant-loop g l = l.seat.number ≡ l.initial.seat.number
