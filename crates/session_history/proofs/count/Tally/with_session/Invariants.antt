use Rattle.session_history.proofs.Prelude.{◌++◌, List, map, take, Transaction, view_txn, IsTally}
use Rattle.session_history.proofs.count.Tally.with_session.Given as goal

abbrev pub invariant-loop-txn : goal.invariant-loop-txn
invariant-loop-txn l = (txns : List Transaction) → IsTally txns l.initial.tally → IsTally (txns ++ map view_txn (take l.txn-index l.session.txns.items)) l.tally
