use Rattle.census.proofs.Prelude.{◌≡◌, ℕ, ◌||◌, List, take, list_any, has_version, at_write, is_passed}
use Rattle.census.proofs.writes.add_passes.Given as goal

abbrev pub invariant-loop-op : goal.invariant-loop-op
invariant-loop-op l = (k : List ℕ) (w : ℕ) → has_version l.versions k w ≡ (has_version l.initial.versions k w || list_any (at_write (is_passed l.states) k w) (take l.op-index l.ops))
