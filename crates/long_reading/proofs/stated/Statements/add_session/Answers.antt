use Rattle.long_reading.proofs.Prelude.{◌≡◌, ◌+◌, ◌<◌, ◌≤◌, List, length, get_or, refl, subst, arith, view_txn, txn_lines, Txn, Stated, Statements}
use Rattle.long_reading.proofs.Stating.{room_for, one_more, session_length, takes_txns}
use Rattle.long_reading.proofs.stated.Statements.add_session.Goals as goal

pub add_txn-requires : goal.add_txn-requires
add_txn-requires c =
    let e = c.deref-txn-items.ensures.value in
    let i = c.loop-txn.txn-index in
    let x = c.txn-item.result in
    let P : List Txn → Type 0 = λ xs. i < length xs in
    let Q : List Txn → Type 0 = λ xs. x ≡ get_or xs i x in
    let room = room_for (λ (t : Txn). txn_lines (view_txn t)) c.args.session.now.txns.items i x (subst P e c.loop-txn-test.true) (subst Q e c.txn-item.is) in
    omega (arith, room, session_length c.args.session.now, c.loop-txn.invariant.line, c.requires)

pub loop-txn-preserved : goal.loop-txn-preserved
loop-txn-preserved c =
    let e = c.deref-txn-items.ensures.value in
    let i = c.loop-txn.txn-index in
    let x = c.txn-item.result in
    let P : List Txn → Type 0 = λ xs. i < length xs in
    let Q : List Txn → Type 0 = λ xs. x ≡ get_or xs i x in
    let start : Statements = record { line = c.args.self.now.line + 1; sessions = c.push.new.self; writes = c.args.self.now.writes } in
    one_more (λ (t : Txn). txn_lines (view_txn t)) start c.loop-txn.self c.add_txn.new.self c.args.session.now.txns.items i x (subst P e c.loop-txn-test.true) (subst Q e c.txn-item.is) c.loop-txn.invariant c.in_ok-add_txn.ensures

pub returns : goal.returns
returns c =
    let start : Statements = record { line = c.args.self.now.line + 1; sessions = c.push.new.self; writes = c.args.self.now.writes } in
    let stated : Stated = record { number = c.from.result; line = c.args.self.now.line } in
    let P : List Txn → Type 0 = λ xs. length xs ≤ c.loop-txn.txn-index in
    takes_txns c.args.self.now start c.loop-txn.self c.args.session.now stated c.loop-txn.txn-index refl c.from.ensures refl refl c.in_ok-push.ensures.items
    (subst P c.deref-txn-items.ensures.value c.loop-txn-test.false) c.loop-txn.invariant
