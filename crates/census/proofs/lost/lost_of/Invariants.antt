use Rattle.census.proofs.Prelude.{◌≡◌, List, map, take, filter, Transaction, is_committed, is_lost, view_ref, KnowsUpdates}
use Rattle.census.proofs.lost.lost_of.Given as goal

abbrev pub invariant-loop-txn : goal.invariant-loop-txn
invariant-loop-txn l = (committed : List Transaction) → KnowsUpdates committed l.updates
    → map view_ref l.lost.items ≡ filter (is_lost committed) (filter is_committed (map view_ref (take l.txn-index l.txns)))
