use Rattle.std.proofs.Common.{◌≡◌, ◌++◌, None, drop, map}
use Rattle.session_log.specs.Text.{view}
use Rattle.log_lines.specs.Rows.{rows_of}
use Rattle.tell_points.specs.Short.{sentence_text, missed_last}
use Rattle.tell_points.proofs.short.put_sentence.Given as goal

abbrev pub invariant-loop-edge : goal.invariant-loop-edge
invariant-loop-edge l = (l.out.items ++ sentence_text (rows_of l.log.places.now) (map view l.log.sessions.now) l.steps l.before (drop l.edge-index l.edges) ≡ l.initial.out.items ++ sentence_text (rows_of l.log.places.now) (map view l.log.sessions.now) l.steps None l.edges) × (missed_last l.before (drop l.edge-index l.edges) ≡ missed_last None l.edges)
