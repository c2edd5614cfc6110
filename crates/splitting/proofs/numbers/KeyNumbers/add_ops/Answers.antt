use Rattle.splitting.proofs.Prelude.{◌∷◌, [], map, take, sym, subst, front_more, key_of, Adds}
use Rattle.splitting.proofs.KeyNumbers.{adds_none, adds_join}
use Rattle.splitting.proofs.numbers.KeyNumbers.add_ops.Goals as goal

pub loop-op-init : goal.loop-op-init
loop-op-init c = adds_none c.args.self.now

pub loop-op-preserved : goal.loop-op-preserved
loop-op-preserved c =
    let ops = c.args.ops.now in
    let i = c.loop-op.op-index in
    let op = c.op-item.result in
    subst (λ l. Adds c.args.self.now (map key_of l) c.add_key.new.self) (sym (front_more ops i op c.loop-op-test.true c.op-item.is))
    (adds_join c.args.self.now c.loop-op.self c.add_key.new.self (take i ops) (op ∷ []) c.loop-op.invariant
    (subst (λ k. Adds c.loop-op.self (k ∷ []) c.add_key.new.self) c.key.ensures c.in_ok-add_key.ensures))
