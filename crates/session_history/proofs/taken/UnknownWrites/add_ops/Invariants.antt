use Rattle.session_history.proofs.Prelude.{◌++◌, List, take, view, WriteAt, writes_of, FindsLast}
use Rattle.session_history.proofs.taken.UnknownWrites.add_ops.Given as goal

abbrev pub invariant-loop-op : goal.invariant-loop-op
invariant-loop-op l = (old : List WriteAt) → FindsLast old l.initial.self → FindsLast (old ++ writes_of (view l.session) (take l.op-index l.ops)) l.self
