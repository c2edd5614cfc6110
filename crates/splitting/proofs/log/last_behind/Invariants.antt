use Rattle.splitting.proofs.Prelude.{◌≡◌, ◌+◌, length, drop, written}
use Rattle.splitting.proofs.log.last_behind.Given as goal

abbrev pub invariant-loop-op : goal.invariant-loop-op
invariant-loop-op l = l.last + length (written (drop l.op-index l.ops)) ≡ l.fn.last + length (written l.ops)
