use Rattle.log_parts.proofs.Prelude.{◌≡◌, take}
use Rattle.log_parts.proofs.copies.copy_ops.Given as goal

abbrev pub invariant-loop-op : goal.invariant-loop-op
invariant-loop-op l = l.new.items ≡ take l.op-index l.ops
