use Rattle.std.proofs.Common.{◌≡◌, ◌++◌, drop, map}
use Rattle.session_log.specs.Text.{view}
use Rattle.log_lines.specs.Rows.{rows_of}
use Rattle.part_graphs.specs.Boxes.{ops_text}
use Rattle.part_graphs.proofs.boxes.put_ops.Given as goal

abbrev pub invariant-loop-i : goal.invariant-loop-i
invariant-loop-i l = l.out.items ++ ops_text (rows_of l.log.places.now) (map view l.log.sessions.now) l.at l.i (drop l.i l.ops) ≡ l.initial.out.items ++ ops_text (rows_of l.log.places.now) (map view l.log.sessions.now) l.at 0 l.ops
