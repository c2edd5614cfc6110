-- What the picks by number of edges mean.
use Rattle.std.specs.Prelude.{◌≡◌, ℕ, ◌<◌, ◌≤◌, true}
use Rattle.branching.specs.View.{View, is_open_in}
use Rattle.branching.specs.Picks.{edge_count}

-- the choice is open, no open one has more edges, and each open one of lesser number has fewer
pub record HasMost (v : View) (c : ℕ) : Type 0 where
  pub free : is_open_in v c ≡ true
  pub most : (d : ℕ) → is_open_in v d ≡ true → edge_count v.polygraph.choices d ≤ edge_count
      v.polygraph.choices c
  pub first : (d : ℕ) → is_open_in v d ≡ true → d < c
      → edge_count v.polygraph.choices d < edge_count v.polygraph.choices c

-- the choice is open, no open one has fewer edges, and each open one of lesser number has more
pub record HasFewest (v : View) (c : ℕ) : Type 0 where
  pub free : is_open_in v c ≡ true
  pub fewest : (d : ℕ) → is_open_in v d ≡ true
      → edge_count v.polygraph.choices c ≤ edge_count v.polygraph.choices d
  pub first : (d : ℕ) → is_open_in v d ≡ true → d < c
      → edge_count v.polygraph.choices c < edge_count v.polygraph.choices d
