use Rattle.reach_rows.proofs.Prelude.{◌+◌, ◌*◌, ◌≤◌}
use Rattle.reach_rows.proofs.parts.work_of.Given as goal

abbrev pub invariant-loop-word : goal.invariant-loop-word
invariant-loop-word l = l.work ≤ 1 + 64 * l.word-index
