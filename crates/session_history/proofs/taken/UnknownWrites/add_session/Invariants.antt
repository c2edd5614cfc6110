use Rattle.session_history.proofs.Prelude.{◌++◌, List, map, take, view, view_txn, WriteAt, unknown_writes_of, FindsLast}
use Rattle.session_history.proofs.taken.UnknownWrites.add_session.Given as goal

abbrev pub invariant-loop-txn : goal.invariant-loop-txn
invariant-loop-txn l = (old : List WriteAt) → FindsLast old l.initial.self → FindsLast (old ++ unknown_writes_of (view l.session) (map view_txn (take l.txn-index l.session.txns.items))) l.self
