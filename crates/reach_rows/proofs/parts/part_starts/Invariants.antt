use Rattle.reach_rows.proofs.Prelude.{◌≡◌, ◌+◌, ◌≤◌, length, ArePartStarts}
use Rattle.reach_rows.proofs.parts.part_starts.Given as goal

abbrev pub invariant-loop-worker : goal.invariant-loop-worker
invariant-loop-worker l = record {
  starts : ArePartStarts l.start l.starts.items;
  count : length l.starts.items ≡ l.worker;
  within : l.start ≤ l.known.nodes + 1;
}
