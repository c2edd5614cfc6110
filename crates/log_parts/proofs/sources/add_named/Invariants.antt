use Rattle.log_parts.proofs.Prelude.{◌≡◌, ◌||◌, ℕ, nat_cmp, drop, contains, has_named}
use Rattle.log_parts.proofs.sources.add_named.Given as goal

abbrev pub invariant-loop-op : goal.invariant-loop-op
invariant-loop-op l = (wid : ℕ) → (contains nat_cmp l.wids wid || has_named l.kind (drop l.op-index l.ops) wid) ≡ (contains nat_cmp l.fn.wids wid || has_named l.kind l.ops wid)
