use Rattle.log_parts.proofs.Prelude.{◌≡◌, map, take, view_txn}
use Rattle.log_parts.proofs.copies.copy_txns.Given as goal

abbrev pub invariant-loop-txn : goal.invariant-loop-txn
invariant-loop-txn l = map view_txn l.new.items ≡ map view_txn (take l.txn-index l.txns)
