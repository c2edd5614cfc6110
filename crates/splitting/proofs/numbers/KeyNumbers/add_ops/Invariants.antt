use Rattle.splitting.proofs.Prelude.{take, map, key_of, Adds}
use Rattle.splitting.proofs.numbers.KeyNumbers.add_ops.Given as goal

abbrev pub invariant-loop-op : goal.invariant-loop-op
invariant-loop-op l = Adds l.fn.self (map key_of (take l.op-index l.ops)) l.self
