use Rattle.splitting.proofs.Prelude.{◌≡◌, ◌+◌, ◌++◌, length, map, drop, flat_map, view_txn, written, Locks, Fit, AreNamed, parts, ops_by}
use Rattle.splitting.proofs.log.split_txns.Given as goal

abbrev pub invariant-loop-txn : goal.invariant-loop-txn
invariant-loop-txn l =
    let all = map view_txn l.txns in
    let left = map view_txn (drop l.txn-index l.txns) in
    Fit l.names l.last (ops_by left)
    × (l.last + length (written (ops_by left)) ≡ l.fn.last + length (written (ops_by all)))
    × ((locks : Locks) → AreNamed locks l.names l.fn.last (ops_by all) →
    AreNamed locks l.names l.last (ops_by left) × (map view_txn l.split.items ++ flat_map (parts locks) left ≡ flat_map (parts locks) all))
