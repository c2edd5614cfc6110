use Rattle.census.proofs.Prelude.{◌++◌, ◌∷◌, [], List, map, take, sym, ap, ◌∙◌, flat_map, take_all, flat_map-append, append_none, mapped_front, ClientSession, Transaction, view, view_txn, Txn, txns_in, view_ref}
use Rattle.session_log.specs.declared.session.Session.{Session}
use Rattle.census.proofs.counting.txns_of.Goals as goal

pub loop-session-preserved : goal.loop-session-preserved
loop-session-preserved c =
    let i = c.loop-session.session-index in
    let sessions = c.args.sessions.now in
    let x = c.session-item.result in
    let txns_of : ClientSession → List Transaction = λ s. s.txns in
    let before = txns_in (map view (take i sessions)) in
    let here = map view_txn x.txns.items in
    c.in_ok-add_txns.ensures
    ∙ ap (λ (l : List Txn). map view_ref c.loop-session.all.items ++ map view_txn l) c.as_slice.ensures.value
    ∙ ap (λ l. l ++ here) c.loop-session.invariant
    ∙ ap (λ l. before ++ l) (append_none here)
    ∙ sym (flat_map-append txns_of (map view (take i sessions)) (view x ∷ []))
    ∙ ap (flat_map txns_of) (sym (mapped_front view sessions i x c.loop-session-test.true c.session-item.is))

pub returns : goal.returns
returns c =
    c.loop-session.invariant
    ∙ ap (λ (l : List Session). txns_in (map view l)) (take_all c.loop-session.session-index c.args.sessions.now c.loop-session-test.false)
