use Rattle.numbered_log.proofs.Prelude.{◌≡◌, ◌++◌, List, length, take, map, Some, sym, ap, ◌∙◌, subst, arith, slice_get, flat_map, take_all, item, get_map, Transaction, view_txn, settle, nodes_from, length_mapped, IsMade}
use Rattle.session_log.specs.declared.session.Txn.{Txn}
use Rattle.numbered_log.proofs.Passing.{txn_more}
use Rattle.numbered_log.proofs.making.Making.add_session.Goals as goal

pub loop-i-preserved : goal.loop-i-preserved
loop-i-preserved c = record {
  finds = c.in_ok-add_txn.ensures.finds;
  made = λ numbers seen txns old at.
      (let session = c.args.session.now in
      let items = session.txns.items in
      let ts = map view_txn items in
      let i = c.loop-i.i in
      let x = c.txn-item.result in
      let t = view_txn x in
      let e = c.deref-txn-items.ensures.value in
      let stands : slice_get items i ≡ Some x = ap (λ (l : List Txn). slice_get l i) (sym e) ∙ item c.deref-txn-items.result.now i x c.loop-i-test.true c.txn-item.is in
      let us = map (settle c.args.is_taken) ts in
      let at_t = get_map view_txn items i x stands in
      let made = c.loop-i.invariant.made numbers seen txns old at in
      txn_more numbers seen txns session.number ts us i c.in_ok-place.field-0 t (settle c.args.is_taken t) c.add_txn.new.self at_t (get_map (settle c.args.is_taken) ts i t at_t) c.in_ok-place.ensures.same
      (c.in_ok-add_txn.ensures.made numbers session.number (seen ++ flat_map (λ (u : Transaction). u.ops) (take i ts)) (txns ++ nodes_from session.number 1 (take i us)) made at));
}

pub returns-clause-made : goal.returns-clause-made
returns-clause-made c numbers seen txns old at =
    let session = c.args.session.now in
    let items = session.txns.items in
    let ts = map view_txn items in
    let us = map (settle c.args.is_taken) ts in
    let long : length ts ≡ length items = length_mapped view_txn items in
    let e = ap length c.deref-txn-items.ensures.value in
    let all : take c.loop-i.i ts ≡ ts = take_all c.loop-i.i ts (let past = c.loop-i-test.false in omega (arith, long, e, past)) in
    let all_us : take c.loop-i.i us ≡ us = take_all c.loop-i.i us (let past = c.loop-i-test.false in let same = length_mapped (settle c.args.is_taken) ts in omega (arith, long, e, past, same)) in
    subst (λ (l : List Transaction). IsMade numbers (seen ++ flat_map (λ (u : Transaction). u.ops) ts) (txns ++ nodes_from session.number 1 l) c.loop-i.self) all_us
    (subst (λ (l : List Transaction). IsMade numbers (seen ++ flat_map (λ (u : Transaction). u.ops) l) (txns ++ nodes_from session.number 1 (take c.loop-i.i us)) c.loop-i.self) all (c.loop-i.invariant.made numbers seen txns old at))
