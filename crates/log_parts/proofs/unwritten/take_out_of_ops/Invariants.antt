use Rattle.log_parts.proofs.Prelude.{◌≡◌, ◌&&◌, not, ℕ, nat_cmp, drop, contains, wrote}
use Rattle.log_parts.proofs.unwritten.take_out_of_ops.Given as goal

abbrev pub invariant-loop-op : goal.invariant-loop-op
invariant-loop-op l = (wid : ℕ) → (contains nat_cmp l.wids wid && not (wrote (drop l.op-index l.ops) wid)) ≡ (contains nat_cmp l.fn.wids wid && not (wrote (l.ops) wid))
