use Rattle.std.proofs.Common.{◌≡◌, drop, map}
use Rattle.session_log.specs.Text.{view}
use Rattle.log_lines.specs.Rows.{rows_of}
use Rattle.tell_evidence.specs.Evidence.{short_by}
use Rattle.tell_evidence.proofs.edges.put_short_circle.Given as goal

abbrev pub invariant-loop-edge : goal.invariant-loop-edge
invariant-loop-edge l = (l.out.items ≡ l.initial.out.items) × (short_by (rows_of l.log.places.now) (map view l.log.sessions.now) l.edges (drop l.edge-index l.edges) ≡ short_by (rows_of l.log.places.now) (map view l.log.sessions.now) l.edges l.edges)
