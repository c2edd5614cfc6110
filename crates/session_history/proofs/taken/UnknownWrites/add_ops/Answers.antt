use Rattle.session_history.proofs.Prelude.{◌++◌, List, take, subst, view, WriteAt, writes_of, FindsLast}
use Rattle.session_history.proofs.Found.{ops_more}
use Rattle.session_history.proofs.taken.UnknownWrites.add_ops.Goals as goal

pub loop-op-preserved : goal.loop-op-preserved
loop-op-preserved c = λ old h.
    let s = view c.args.session.now in
    let ops = c.args.ops.now in
    let i = c.loop-op.op-index in
    let P : List WriteAt → Type 0 = λ xs. FindsLast xs c.add.new.self in
    subst P (ops_more old s ops i c.op-item.result c.loop-op-test.true c.op-item.is)
    (c.in_ok-add.ensures (old ++ writes_of s (take i ops)) (c.loop-op.invariant old h))
