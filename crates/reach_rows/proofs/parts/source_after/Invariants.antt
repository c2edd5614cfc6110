use Rattle.reach_rows.proofs.Prelude.{◌+◌, ◌-◌, ◌≤◌}
use Rattle.reach_rows.proofs.parts.source_after.Given as goal

abbrev pub invariant-loop-source : goal.invariant-loop-source
invariant-loop-source l = record {
  forth : l.from ≤ l.source;
  within : l.source ≤ l.known.nodes + 1;
}

abbrev pub decreases-loop-source : goal.decreases-loop-source
decreases-loop-source l = l.known.nodes + 1 - l.source
