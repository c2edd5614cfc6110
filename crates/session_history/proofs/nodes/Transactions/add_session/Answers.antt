use Rattle.session_history.proofs.Prelude.{◌≡◌, ◌<◌, arith, List, [], ◌∷◌, length, get_or, map, take, subst, refl, flat_map, take_all, settle, Takes, placed_from, Txn, view_txn, txn_lines}
use Rattle.session_log.specs.declared.line.Line.TheVariants as line
use Rattle.session_history.proofs.Taking.{txns_more, txns_left, nodes_counted, takes_more, takes_header}
use Rattle.session_history.proofs.nodes.Transactions.add_session.Goals as goal

pub add-requires-clause-few : goal.add-requires-clause-few
add-requires-clause-few c =
    let e = c.deref-txn-items.ensures.value in
    let i = c.loop-txn.txn-index in
    let x = c.txn-item.result in
    let P : List Txn → Type 0 = λ xs. i < length xs in
    let Q : List Txn → Type 0 = λ xs. x ≡ get_or xs i x in
    let left = txns_left c.args.session.now.txns.items i x c.args.is_taken (subst P e c.loop-txn-test.true) (subst Q e c.txn-item.is) in
    omega (arith, left.1, c.loop-txn.invariant.few)

pub loop-txn-preserved : goal.loop-txn-preserved
loop-txn-preserved c =
    let e = c.deref-txn-items.ensures.value in
    let i = c.loop-txn.txn-index in
    let x = c.txn-item.result in
    let txns = c.args.session.now.txns.items in
    let P : List Txn → Type 0 = λ xs. i < length xs in
    let Q : List Txn → Type 0 = λ xs. x ≡ get_or xs i x in
    let h : P txns = subst P e c.loop-txn-test.true in
    let at : Q txns = subst Q e c.txn-item.is in
    let left = txns_left txns i x c.args.is_taken h at in
    let count = nodes_counted c.loop-txn.self c.add.new.self _ _ c.in_ok-add.ensures.taken in
    record {
      place = omega arith;
      finds = c.in_ok-add.ensures.finds;
      taken = txns_more _ c.loop-txn.self c.add.new.self txns i x c.args.is_taken c.args.session.now.number c.loop-txn.place h at c.loop-txn.invariant.place c.loop-txn.invariant.taken c.in_ok-add.ensures.taken;
      room = omega (arith, left.0, c.loop-txn.invariant.room, c.in_ok-add.ensures.taken.line);
      few = omega (arith, left.1, c.loop-txn.invariant.few, count);
    }

pub returns-clause-taken : goal.returns-clause-taken
returns-clause-taken c =
    let all = take_all c.loop-txn.txn-index c.deref-txn-items.result.now c.loop-txn-test.false in
    let e = c.deref-txn-items.ensures.value in
    let begun = record c.args.self.now { writes = c.begin_session.new.self } in
    let number = c.args.session.now.number in
    let P : List Txn → Type 0 = λ xs. Takes begun c.loop-txn.self (flat_map txn_lines (map view_txn xs)) (placed_from number 1 (map (settle c.args.is_taken) (map view_txn xs))) in
    let Q : List Txn → Type 0 = λ xs. take c.loop-txn.txn-index xs ≡ xs in
    takes_more c.args.self.now begun c.loop-txn.self (line.Session number ∷ []) _ [] _
    (takes_header c.args.self.now begun number refl refl c.begin_session.ensures)
    (subst P (subst Q e all) c.loop-txn.invariant.taken)
