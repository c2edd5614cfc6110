use Rattle.splitting.proofs.Prelude.{◌≡◌, take}
use Rattle.splitting.proofs.log.copy_txn.Given as goal

abbrev pub invariant-loop-op : goal.invariant-loop-op
invariant-loop-op l = l.ops.items ≡ take l.op-index l.txn.ops.items
