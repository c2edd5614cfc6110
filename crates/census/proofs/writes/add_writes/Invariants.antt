use Rattle.census.proofs.Prelude.{◌≡◌, ℕ, ◌||◌, List, take, list_any, Read, reads_write, has_version}
use Rattle.census.proofs.writes.add_writes.Given as goal

abbrev pub invariant-loop-op : goal.invariant-loop-op
invariant-loop-op l = (k : List ℕ) (w : ℕ) → has_version l.versions k w ≡ (has_version l.initial.versions k w || list_any (reads_write (Read k w)) (take l.op-index l.ops))
