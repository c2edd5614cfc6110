use Rattle.std.proofs.Common.{◌≡◌, ◌++◌, drop, map}
use Rattle.session_log.specs.Text.{view}
use Rattle.log_lines.specs.Rows.{rows_of}
use Rattle.tell_points.specs.Lines.{steps_text}
use Rattle.tell_points.proofs.lines.put_steps.Given as goal

abbrev pub invariant-loop-i : goal.invariant-loop-i
invariant-loop-i l = l.out.items ++ steps_text (rows_of l.log.places.now) (map view l.log.sessions.now) l.i (drop l.i l.steps) ≡ l.initial.out.items ++ steps_text (rows_of l.log.places.now) (map view l.log.sessions.now) 0 l.steps
