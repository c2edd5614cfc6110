use Rattle.branching.proofs.Prelude.{ℕ, ◌<◌, ◌≤◌, slice_index}
use Rattle.branching.proofs.counts.bounds_of.Given as goal

abbrev pub invariant-loop-count : goal.invariant-loop-count
invariant-loop-count l = record {
  above : (k : ℕ) → k < l.count-index → l.fewest ≤ slice_index l.counts k;
  below : (k : ℕ) → k < l.count-index → slice_index l.counts k ≤ l.most;
}
