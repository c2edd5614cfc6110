use Rattle.prune_ledger.proofs.Prelude.{◌≡◌, AllByRecursion, Extends, Handled, IsOpenIn}
use Rattle.prune_ledger.proofs.round.turns.Given as goal

abbrev pub invariant-loop-number : goal.invariant-loop-number
invariant-loop-number g l = record {
  number : l.seat.number ≡ l.fn.seat.number;
  handled : Handled l.passed.items l.fn.seat.calls l.seat.calls;
  more : Extends l.task.start.now l.own;
  each : AllByRecursion (IsOpenIn l.task.start.now.edges l.task.polygraph.now.choices) l.passed.items;
}
