use Rattle.census.proofs.Prelude.{◌≡◌, ◌++◌, map, take, view_txn, view_ref}
use Rattle.census.proofs.counting.add_txns.Given as goal

abbrev pub invariant-loop-txn : goal.invariant-loop-txn
invariant-loop-txn l = map view_ref l.all.items ≡ map view_ref l.initial.all.items ++ map view_txn (take l.txn-index l.txns)
