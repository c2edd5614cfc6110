use Rattle.census.proofs.Prelude.{◌≡◌, List, map, take, filter, ClientSession, is_committed, txns_in, faults_of_txns, view_ref, view_fault, KnowsWrites}
use Rattle.census.proofs.faults.faults_of.Given as goal

abbrev pub invariant-loop-txn : goal.invariant-loop-txn
invariant-loop-txn l = (ss : List ClientSession) → KnowsWrites (txns_in ss) l.writes
    → map view_fault l.faults.items ≡ faults_of_txns ss (filter is_committed (map view_ref (take l.txn-index l.txns)))
