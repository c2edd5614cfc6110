use Rattle.std.proofs.Common.{◌≡◌, ◌+◌, ◌++◌, map, drop, length, flat_map}
use Rattle.session_log.specs.Text.{view, view_txn, txn_lines}
use Rattle.log_lines.specs.Rows.{view_place, own_rows}
use Rattle.log_lines.proofs.places.own_session.Given as goal

abbrev pub invariant-loop-earlier : goal.invariant-loop-earlier
invariant-loop-earlier l = record {
  rows : map view_place l.rows.items ++ own_rows (l.earlier + 1) l.line (map view_txn (drop l.earlier l.session.txns.items)) ≡ own_rows 1 (l.first + 1) (view l.session).txns;
  room : l.line + length (flat_map txn_lines (map view_txn (drop l.earlier l.session.txns.items))) ≡ l.first + 1 + length (flat_map txn_lines (view l.session).txns);
}
