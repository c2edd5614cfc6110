use Rattle.session_history.proofs.Prelude.{◌≡◌, ◌+◌, ◌<◌, ◌≤◌, ◌^◌, map, take, drop, length, count_by, flat_map, view_txn, txn_lines, is_committed, settle, FindsEach, Takes, placed_from}
use Rattle.session_history.proofs.nodes.Transactions.add_session.Given as goal

abbrev pub invariant-loop-txn : goal.invariant-loop-txn
invariant-loop-txn l = record {
  place : l.place ≡ l.txn-index + 1;
  finds : FindsEach l.self.numbers;
  taken : Takes l.initial.self l.self (flat_map txn_lines (map view_txn (take l.txn-index l.session.txns.items))) (placed_from l.session.number 1 (map (settle l.is_taken) (map view_txn (take l.txn-index l.session.txns.items))));
  room : l.self.writes.line + length (flat_map txn_lines (map view_txn (drop l.txn-index l.session.txns.items))) < 2 ^ 64;
  few : length l.self.nodes.items + count_by is_committed (map (settle l.is_taken) (map view_txn (drop l.txn-index l.session.txns.items))) ≤ 1000;
}
