use Rattle.census.proofs.Prelude.{◌≡◌, ℕ, ◌||◌, List, take, list_any, has_version, at_read, updates_in}
use Rattle.census.proofs.updates.add_repeats.Given as goal

abbrev pub invariant-loop-op : goal.invariant-loop-op
invariant-loop-op l = (k : List ℕ) (w : ℕ) → has_version l.versions k w ≡ (has_version l.initial.versions k w || list_any (at_read (updates_in l.before l.states) k w) (take l.op-index l.ops))
