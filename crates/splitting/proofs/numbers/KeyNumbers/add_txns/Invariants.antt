use Rattle.splitting.proofs.Prelude.{take, map, key_of, view_txn, ops_by, Adds}
use Rattle.splitting.proofs.numbers.KeyNumbers.add_txns.Given as goal

abbrev pub invariant-loop-txn : goal.invariant-loop-txn
invariant-loop-txn l = Adds l.fn.self (map key_of (ops_by (map view_txn (take l.txn-index l.txns)))) l.self
