use Rattle.splitting.proofs.Prelude.{take, map, sym, subst, view_txn, Transaction, key_of, Adds, ops_by}
use Rattle.splitting.proofs.KeyNumbers.{adds_none, adds_join}
use Rattle.splitting.proofs.Walks.{flat_front}
use Rattle.splitting.proofs.numbers.KeyNumbers.add_txns.Goals as goal

pub loop-txn-init : goal.loop-txn-init
loop-txn-init c = adds_none c.args.self.now

pub loop-txn-preserved : goal.loop-txn-preserved
loop-txn-preserved c =
    let txns = c.args.txns.now in
    let i = c.loop-txn.txn-index in
    subst (λ l. Adds c.args.self.now (map key_of l) c.add_ops.new.self) (sym (flat_front (λ (t : Transaction). t.ops) view_txn txns i c.txn-item.result c.loop-txn-test.true c.txn-item.is))
    (adds_join c.args.self.now c.loop-txn.self c.add_ops.new.self (ops_by (map view_txn (take i txns))) c.txn-item.result.ops.items c.loop-txn.invariant
    (subst (λ l. Adds c.loop-txn.self (map key_of l) c.add_ops.new.self) c.deref.ensures.value c.in_ok-add_ops.ensures))
