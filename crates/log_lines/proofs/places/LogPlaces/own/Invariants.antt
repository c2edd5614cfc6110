use Rattle.std.proofs.Common.{◌≡◌, ◌+◌, ◌++◌, map, drop, length}
use Rattle.session_log.specs.Text.{view}
use Rattle.session_log.specs.Version.{first_line}
use Rattle.log_definitions.specs.WellFormed.{log_lines}
use Rattle.log_lines.specs.Rows.{view_place, own_places}
use Rattle.log_lines.proofs.places.LogPlaces.own.Given as goal

abbrev pub invariant-loop-session : goal.invariant-loop-session
invariant-loop-session l = record {
  rows : map (λ s. map view_place s.items) l.rows.items ++ own_places l.line (map view (drop l.session-index l.sessions)) ≡ own_places (first_line l.fn.version) (map view l.sessions);
  room : l.line + length (log_lines (map view (drop l.session-index l.sessions))) ≡ first_line l.fn.version + length (log_lines (map view l.sessions));
}
