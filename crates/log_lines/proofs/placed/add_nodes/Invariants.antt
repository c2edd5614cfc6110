use Rattle.std.proofs.Common.{◌≡◌, ◌++◌, map, drop}
use Rattle.session_log.specs.Text.{view_txn}
use Rattle.log_lines.specs.Rows.{view_place}
use Rattle.log_lines.specs.NodeRows.{node_rows}
use Rattle.log_lines.proofs.placed.add_nodes.Given as goal

abbrev pub invariant-loop-at : goal.invariant-loop-at
invariant-loop-at l = map (λ p. view_place p.now) l.nodes.items ++ node_rows l.is_taken (map view_txn (drop l.at l.txns)) (map view_place (drop l.at l.places)) ≡ map (λ p. view_place p.now) l.initial.nodes.items ++ node_rows l.is_taken (map view_txn l.txns) (map view_place l.places)
