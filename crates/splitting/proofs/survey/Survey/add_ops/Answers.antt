use Rattle.splitting.proofs.Prelude.{◌∷◌, [], take, sym, subst, front_more, Finds}
use Rattle.splitting.proofs.Greatest.{finds_join}
use Rattle.splitting.proofs.survey.Survey.add_ops.Goals as goal

pub loop-op-preserved : goal.loop-op-preserved
loop-op-preserved c =
    let ops = c.args.ops.now in
    let i = c.loop-op.op-index in
    subst (λ l. Finds c.args.self.now l c.add_op.new.self) (sym (front_more ops i c.op-item.result c.loop-op-test.true c.op-item.is))
    (finds_join c.args.self.now c.loop-op.self c.add_op.new.self (take i ops) (c.op-item.result ∷ []) c.loop-op.invariant c.in_ok-add_op.ensures)
