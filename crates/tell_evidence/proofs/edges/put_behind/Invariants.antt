use Rattle.std.proofs.Common.{◌≡◌, ◌++◌, drop, map}
use Rattle.session_log.specs.Text.{view}
use Rattle.log_lines.specs.Rows.{rows_of}
use Rattle.tell_evidence.specs.Evidence.{behind_and}
use Rattle.tell_evidence.proofs.edges.put_behind.Given as goal

abbrev pub invariant-loop-edge : goal.invariant-loop-edge
invariant-loop-edge l = l.out.items ++ behind_and (rows_of l.log.places.now) (map view l.log.sessions.now) (drop l.edge-index l.edges) ≡ l.initial.out.items ++ behind_and (rows_of l.log.places.now) (map view l.log.sessions.now) l.edges
