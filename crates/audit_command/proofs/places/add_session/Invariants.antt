use Rattle.audit_command.proofs.Prelude.{◌≡◌, ◌+◌, ◌++◌, map, drop, length, flat_map, view, view_txn, txn_lines, told_from, chosen_by}
use Rattle.audit_command.proofs.places.add_session.Given as goal

abbrev pub invariant-loop-i : goal.invariant-loop-i
invariant-loop-i l = record {
  told : l.told.items ++ told_from (chosen_by l.flags l.index) l.session.number (l.i + 1) l.line (map view_txn (drop l.i l.session.txns.items)) ≡ l.initial.told.items ++ told_from (chosen_by l.flags l.index) l.session.number 1 l.first (view l.session).txns;
  line : l.line + length (flat_map txn_lines (map view_txn (drop l.i l.session.txns.items))) ≡ l.first + length (flat_map txn_lines (view l.session).txns);
}
