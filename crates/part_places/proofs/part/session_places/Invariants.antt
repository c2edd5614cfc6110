use Rattle.part_places.proofs.Prelude.{◌≡◌, ℕ, Bool, List, ◌+◌, ◌++◌, map, drop, length, flat_map, Transaction, view, view_txn, txn_lines, flagged, thin_txn, flag_of, view_place}
use Rattle.part_places.proofs.Added.{AreRows}
use Rattle.part_places.proofs.part.session_places.Given as goal

abbrev pub invariant-loop-at : goal.invariant-loop-at
invariant-loop-at l = record {
  rows : (known : ℕ → Bool) (more : List Transaction) → map view_txn l.left ≡ map (thin_txn known) (flagged (flag_of l.flags) 1 (view l.session).txns) ++ more
      → AreRows known l.flags l.session.txns.items (map view_txn l.left) l.first more (map view_place l.rows.items) l.line l.at;
  room : l.line + length (flat_map txn_lines (map view_txn (drop l.at l.session.txns.items))) ≡ l.first + 1 + length (flat_map txn_lines (view l.session).txns);
}
