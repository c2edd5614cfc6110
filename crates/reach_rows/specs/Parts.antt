-- The sources of workers.
use Rattle.std.specs.Prelude.{◌≡◌, ℕ, ◌+◌, ◌-◌, ◌<◌, ◌≤◌, List, length, slice_index}
use Rattle.reach_laws.specs.Reach.{Graph}
use Rattle.reach_rows.specs.Sources.{AreReachRows}

-- where the sources of each worker begin, from 0 on, and in the end one past the last of so many
-- sources
pub record ArePartStarts (sources : ℕ) (starts : List ℕ) : Type 0 where
  pub some : 0 < length starts
  pub first : slice_index starts 0 ≡ 0
  pub last : slice_index starts (length starts - 1) ≡ sources
  pub forth : (i : ℕ) → i + 1 < length starts → slice_index starts i ≤ slice_index starts (i + 1)

-- the rows of a worker's sources; workers count from 0
abbrev pub IsPart : Graph → List ℕ → ℕ → List ℕ → Type 0
IsPart graph starts worker words = AreReachRows graph (slice_index starts worker)
    (slice_index starts (worker + 1)) words
