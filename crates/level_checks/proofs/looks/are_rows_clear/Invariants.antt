use Rattle.level_checks.proofs.Prelude.{◌≡◌, ℕ, ◌<◌, ◌≤◌, false, slice_index, contains, spot_cmp}
use Rattle.level_checks.proofs.looks.are_rows_clear.Given as goal

abbrev pub invariant-loop-s : goal.invariant-loop-s
invariant-loop-s l = (s : ℕ) → s < l.s → (q : ℕ) → l.source < q → q ≤ slice_index l.row s → q ≤ l.top → contains spot_cmp l.spots (l.root, s, q) ≡ false
