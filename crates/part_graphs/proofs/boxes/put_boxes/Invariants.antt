use Rattle.std.proofs.Common.{◌≡◌, ◌++◌, drop, map}
use Rattle.session_log.specs.Text.{view}
use Rattle.log_lines.specs.Rows.{rows_of}
use Rattle.part_graphs.specs.Boxes.{sessions_boxes}
use Rattle.part_graphs.proofs.boxes.put_boxes.Given as goal

abbrev pub invariant-loop-i : goal.invariant-loop-i
invariant-loop-i l = l.out.items ++ sessions_boxes (rows_of l.log.places.now) (map view l.log.sessions.now) l.look l.i (map view (drop l.i l.log.sessions.now)) ≡ l.initial.out.items ++ sessions_boxes (rows_of l.log.places.now) (map view l.log.sessions.now) l.look 0 (map view l.log.sessions.now)
