use Rattle.std.proofs.Common.{◌≡◌, ◌++◌, take, map}
use Rattle.session_log.specs.Text.{view}
use Rattle.log_lines.specs.Rows.{rows_of}
use Rattle.tell_points.specs.Lines.{way_text}
use Rattle.tell_points.proofs.lines.put_way.Given as goal

abbrev pub invariant-loop-edge : goal.invariant-loop-edge
invariant-loop-edge l = l.out.items ≡ l.initial.out.items ++ way_text (rows_of l.log.places.now) (map view l.log.sessions.now) l.indent (take l.edge-index l.edges)
