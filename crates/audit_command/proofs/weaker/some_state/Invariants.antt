use Rattle.audit_command.proofs.Prelude.{◌≡◌, map, drop, view_txn, some_state}
use Rattle.audit_command.proofs.weaker.some_state.Given as goal

abbrev pub invariant-loop-txn : goal.invariant-loop-txn
invariant-loop-txn l = some_state l.side (map view_txn l.txns) ≡ some_state l.side (map view_txn (drop l.txn-index l.txns))
