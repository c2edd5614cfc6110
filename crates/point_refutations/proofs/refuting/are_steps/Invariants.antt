use Rattle.std.proofs.Common.{◌≡◌, map, []}
use Rattle.std.specs.Prelude.{take, drop}
use Rattle.session_log.specs.Text.{view}
use Rattle.point_refutations.specs.Refuted.{are_steps}
use Rattle.point_refutations.proofs.refuting.are_steps.Given as goal

abbrev pub invariant-loop-i : goal.invariant-loop-i
invariant-loop-i l = are_steps l.is_locked (map view l.sessions) (take l.i l.steps) (drop l.i l.steps) ≡ are_steps l.is_locked (map view l.sessions) [] l.steps
