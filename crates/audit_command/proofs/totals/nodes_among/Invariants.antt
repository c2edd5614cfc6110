use Rattle.audit_command.proofs.Prelude.{◌≡◌, ◌≤◌, map, take, count_by, view_txn, is_committed}
use Rattle.audit_command.proofs.totals.nodes_among.Given as goal

abbrev pub invariant-loop-txn : goal.invariant-loop-txn
invariant-loop-txn l = record {
  is : l.nodes ≡ count_by is_committed (map view_txn (take l.txn-index l.txns));
  few : l.nodes ≤ l.txn-index;
}
