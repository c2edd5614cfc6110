use Rattle.std.proofs.Common.{◌≡◌, ◌++◌, drop, map}
use Rattle.session_log.specs.Text.{view}
use Rattle.log_lines.specs.Rows.{rows_of}
use Rattle.tell_evidence.specs.Evidence.{edges_text}
use Rattle.tell_evidence.proofs.edges.put_edges.Given as goal

abbrev pub invariant-loop-edge : goal.invariant-loop-edge
invariant-loop-edge l = l.out.items ++ edges_text (rows_of l.log.places.now) (map view l.log.sessions.now) (drop l.edge-index l.edges) ≡ l.initial.out.items ++ edges_text (rows_of l.log.places.now) (map view l.log.sessions.now) l.edges
