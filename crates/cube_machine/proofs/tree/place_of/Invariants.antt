use Rattle.cube_machine.proofs.Prelude.{ℕ, ◌≤◌, ◌<◌, length, slice_index}
use Rattle.cube_machine.proofs.tree.place_of.Given as goal

abbrev pub invariant-loop-place : goal.invariant-loop-place
invariant-loop-place l = record {
  within : l.place ≤ length l.numbers;
  above : (k : ℕ) → l.place ≤ k → k < length l.numbers → l.number ≤ slice_index l.numbers k;
}

abbrev pub decreases-loop-place : goal.decreases-loop-place
decreases-loop-place l = l.place
