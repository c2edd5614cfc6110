use Rattle.census.proofs.Prelude.{◌++◌, ◌∷◌, [], List, map, take, sym, ap, ◌∙◌, append_assoc, take_all, map-append, append_none, mapped_front, view_txn, Txn, view_ref}
use Rattle.census.proofs.counting.add_txns.Goals as goal

pub loop-txn-init : goal.loop-txn-init
loop-txn-init c = append_none (map view_ref c.args.all.now.items)

pub loop-txn-preserved : goal.loop-txn-preserved
loop-txn-preserved c =
    let i = c.loop-txn.txn-index in
    let txns = c.args.txns.now in
    let x = c.txn-item.result in
    let old = map view_ref c.args.all.now.items in
    ap (map view_ref) c.in_ok-push.ensures.items
    ∙ map-append view_ref c.loop-txn.all.items _
    ∙ ap (λ l. l ++ view_txn x ∷ []) c.loop-txn.invariant
    ∙ append_assoc old (map view_txn (take i txns)) (view_txn x ∷ [])
    ∙ ap (λ l. old ++ l) (sym (mapped_front view_txn txns i x c.loop-txn-test.true c.txn-item.is))

pub returns : goal.returns
returns c =
    c.loop-txn.invariant
    ∙ ap (λ (l : List Txn). map view_ref c.args.all.now.items ++ map view_txn l) (take_all c.loop-txn.txn-index c.args.txns.now c.loop-txn-test.false)
