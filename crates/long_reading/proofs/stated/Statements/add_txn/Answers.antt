use Rattle.long_reading.proofs.Prelude.{◌≡◌, ◌+◌, ◌<◌, ◌≤◌, List, [], ◌∷◌, length, get_or, refl, subst, arith, op_line, Op, Statements}
use Rattle.long_reading.proofs.Stating.{room_for, one_more, txn_length, takes_txn}
use Rattle.long_reading.proofs.stated.Statements.add_txn.Goals as goal

pub add_op-requires : goal.add_op-requires
add_op-requires c =
    let e = c.deref-op-items.ensures.value in
    let i = c.loop-op.op-index in
    let x = c.op-item.result in
    let P : List Op → Type 0 = λ xs. i < length xs in
    let Q : List Op → Type 0 = λ xs. x ≡ get_or xs i x in
    let room = room_for (λ (op : Op). op_line op ∷ []) c.args.txn.now.ops.items i x (subst P e c.loop-op-test.true) (subst Q e c.op-item.is) in
    omega (arith, room, txn_length c.args.txn.now, c.loop-op.invariant.line, c.requires)

pub loop-op-preserved : goal.loop-op-preserved
loop-op-preserved c =
    let e = c.deref-op-items.ensures.value in
    let i = c.loop-op.op-index in
    let x = c.op-item.result in
    let P : List Op → Type 0 = λ xs. i < length xs in
    let Q : List Op → Type 0 = λ xs. x ≡ get_or xs i x in
    let start : Statements = record c.args.self.now { line = c.args.self.now.line + 1 } in
    one_more (λ (op : Op). op_line op ∷ []) start c.loop-op.self c.add_op.new.self c.args.txn.now.ops.items i x (subst P e c.loop-op-test.true) (subst Q e c.op-item.is) c.loop-op.invariant c.in_ok-add_op.ensures

pub returns : goal.returns
returns c =
    let start : Statements = record c.args.self.now { line = c.args.self.now.line + 1 } in
    let end : Statements = record c.loop-op.self { line = c.loop-op.self.line + 1 } in
    let P : List Op → Type 0 = λ xs. length xs ≤ c.loop-op.op-index in
    takes_txn c.args.self.now start c.loop-op.self end c.args.txn.now c.loop-op.op-index refl refl refl (subst P c.deref-op-items.ensures.value c.loop-op-test.false) c.loop-op.invariant refl refl refl
