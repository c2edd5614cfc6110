use Rattle.session_history.proofs.Prelude.{◌++◌, ◌∷◌, [], List, map, take, ap, sym, subst, ◌∙◌, append_assoc, Transaction, view_txn, IsTally}
use Rattle.session_history.proofs.Stepping.{step, stepped}
use Rattle.session_history.proofs.count.Tally.with_session.Goals as goal

pub loop-txn-preserved : goal.loop-txn-preserved
loop-txn-preserved c = λ txns h.
    let i = c.loop-txn.txn-index in
    let items = c.args.session.now.txns.items in
    let x = c.txn-item.result in
    let P : List Transaction → Type 0 = λ ts. IsTally ts c.plus-tally.result in
    subst P (append_assoc txns (map view_txn (take i items)) (view_txn x ∷ [])
    ∙ ap (λ ts. txns ++ ts) (sym (step view_txn items c.deref-txn-items.result.now i x c.deref-txn-items.ensures.value c.loop-txn-test.true c.txn-item.is)))
    (c.plus-tally.ensures (txns ++ map view_txn (take i items)) (c.loop-txn.invariant txns h))

pub returns : goal.returns
returns c = λ txns h.
    let P : List Transaction → Type 0 = λ ts. IsTally (txns ++ ts) c.loop-txn.tally in
    subst P (ap (map view_txn) (stepped c.args.session.now.txns.items c.deref-txn-items.result.now c.loop-txn.txn-index c.deref-txn-items.ensures.value c.loop-txn-test.false))
    (c.loop-txn.invariant txns h)
