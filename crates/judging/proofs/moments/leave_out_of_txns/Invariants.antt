use Rattle.judging.proofs.Prelude.{◌≡◌, map, view_txn, without, changed}
use Rattle.judging.proofs.moments.leave_out_of_txns.Given as goal

abbrev pub invariant-loop-txn : goal.invariant-loop-txn
invariant-loop-txn l = map view_txn l.txns ≡ changed without l.txn-index (map view_txn l.initial.txns)
