use Rattle.splitting.proofs.Prelude.{◌+◌, refl, subst, drop, AreSides}
use Rattle.splitting.proofs.Named.{item_behind}
use Rattle.splitting.proofs.bare.Sides.of.Goals as goal

pub loop-op-preserved : goal.loop-op-preserved
loop-op-preserved c =
    let ops = c.args.ops.now in
    let op = c.op-item.result in
    c.in_ok-add.ensures ops (drop (c.loop-op.op-index + 1) ops) (subst (AreSides ops c.loop-op.sides) (item_behind ops c.loop-op.op-index op op c.loop-op-test.true c.op-item.is refl) c.loop-op.invariant)
