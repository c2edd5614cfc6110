use Rattle.reach_rows.proofs.Prelude.{◌*◌, ◌≤◌}
use Rattle.reach_rows.proofs.parts.whole_work.Given as goal

abbrev pub invariant-loop-source : goal.invariant-loop-source
invariant-loop-source l = l.work ≤ 1100 * l.source
