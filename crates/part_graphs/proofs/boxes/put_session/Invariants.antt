use Rattle.std.proofs.Common.{◌≡◌, ◌++◌, drop, map}
use Rattle.session_log.specs.Text.{view, view_txn}
use Rattle.log_lines.specs.Rows.{rows_of}
use Rattle.part_graphs.specs.Boxes.{session_boxes}
use Rattle.part_graphs.proofs.boxes.put_session.Given as goal

abbrev pub invariant-loop-i : goal.invariant-loop-i
invariant-loop-i l = l.out.items ++ session_boxes (rows_of l.log.places.now) (map view l.log.sessions.now) l.look l.index l.i (map view_txn (drop l.i l.txns)) ≡ l.initial.out.items ++ session_boxes (rows_of l.log.places.now) (map view l.log.sessions.now) l.look l.index 0 (map view_txn l.txns)
