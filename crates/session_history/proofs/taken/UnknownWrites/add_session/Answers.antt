use Rattle.session_history.proofs.Prelude.{◌++◌, ◌∙◌, List, map, take, subst, ap, sym, view, view_txn, WriteAt, unknown_writes_of, FindsLast}
use Rattle.session_history.proofs.Stepping.{step, stepped}
use Rattle.session_history.proofs.Found.{txns_more}
use Rattle.session_history.proofs.taken.UnknownWrites.add_session.Goals as goal

pub loop-txn-preserved : goal.loop-txn-preserved
loop-txn-preserved c = λ old h.
    let s = view c.args.session.now in
    let items = c.args.session.now.txns.items in
    let i = c.loop-txn.txn-index in
    let P : List WriteAt → Type 0 = λ xs. FindsLast xs c.add_txn.new.self in
    subst P (txns_more old s (map view_txn (take i items)) (view_txn c.txn-item.result)
    ∙ ap (λ ts. old ++ unknown_writes_of s ts) (sym (step view_txn items c.deref-txn-items.result.now i c.txn-item.result c.deref-txn-items.ensures.value c.loop-txn-test.true c.txn-item.is)))
    (c.in_ok-add_txn.ensures (old ++ unknown_writes_of s (map view_txn (take i items))) (c.loop-txn.invariant old h))

pub returns : goal.returns
returns c = λ old h.
    let P : List _ → Type 0 = λ ts. FindsLast (old ++ unknown_writes_of (view c.args.session.now) (map view_txn ts)) c.loop-txn.self in
    subst P (stepped c.args.session.now.txns.items c.deref-txn-items.result.now c.loop-txn.txn-index c.deref-txn-items.ensures.value c.loop-txn-test.false)
    (c.loop-txn.invariant old h)
