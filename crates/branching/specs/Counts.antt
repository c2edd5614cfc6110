-- Bounds of the numbers of edges.
use Rattle.std.specs.Prelude.{ℕ, ◌<◌, ◌≤◌, List, length, slice_index}

-- none of these numbers is below the first bound or above the second
pub record AreBounds (counts : List ℕ) (low high : ℕ) : Type 0 where
  pub fewest : (k : ℕ) → k < length counts → low ≤ slice_index counts k
  pub most : (k : ℕ) → slice_index counts k ≤ high
