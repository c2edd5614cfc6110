use Rattle.splitting.proofs.Prelude.{◌≡◌, ◌++◌, map, drop, flat_map, view_txn, no_locks, parts}
use Rattle.splitting.proofs.bare.split_txns.Given as goal

abbrev pub invariant-loop-txn : goal.invariant-loop-txn
invariant-loop-txn l = map view_txn l.split.items ++ flat_map (parts no_locks) (map view_txn (drop l.txn-index l.txns)) ≡ flat_map (parts no_locks) (map view_txn l.txns)
