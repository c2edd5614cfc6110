use Rattle.std.proofs.Common.{◌≡◌, ◌++◌, map, drop}
use Rattle.session_log.specs.Text.{view}
use Rattle.log_definitions.specs.Unknown.{taken}
use Rattle.log_lines.specs.Rows.{Fits, view_place, rows_of}
use Rattle.log_lines.specs.NodeRows.{node_table}
use Rattle.log_lines.proofs.placed.PlacedHistory.of.Given as goal

abbrev pub invariant-loop-at : goal.invariant-loop-at
invariant-loop-at l = record {
  rows : map (λ p. view_place p.now) l.nodes.items ++ node_table (taken l.history) (map view (drop l.at l.sessions)) (map (λ s. map view_place s.items) (drop l.at l.places.sessions.items)) ≡ node_table (taken l.history) l.history (rows_of l.places);
  fits : Fits (map view (drop l.at l.sessions)) (map (λ s. map view_place s.items) (drop l.at l.places.sessions.items));
}
