-- What the machine's type keeps.
use Rattle.std.specs.Prelude.{◌≡◌, ℕ, ◌<◌, ◌≤◌, List, false, Some, length, slice_get}
use Rattle.std.specs.List.{AllByRecursion}
use Rattle.serializability.specs.Polygraph.{Choice}
use Rattle.polygraph.specs.Polygraphs.{JoinsBoth}
use Rattle.prune_ledger.specs.Steps.{is_free}
use Rattle.prune_ledger.specs.declared.messages.ChoiceState.{ChoiceState}
use Rattle.polygraph.specs.declared.index.TheConstants.{MAX_CHOICES}

-- none of the marks before the cursor is free
pub record IsPast (cursor : ℕ) (marks : List ChoiceState) : Type 0 where
  pub each : (k : ℕ) (m : ChoiceState) → k < cursor → slice_get marks k ≡ Some m → is_free m ≡ false

-- there are at most 100,000 choices between nodes 0 to n, each with a mark, and no free one before
-- the cursor
pub record IsKept (n : ℕ) (choices : List Choice) (marks : List ChoiceState)
    (cursor : ℕ) : Type 0 where
  pub few : length choices ≤ MAX_CHOICES
  pub joined : AllByRecursion (JoinsBoth n) choices
  pub marked : length marks ≡ length choices
  pub within : cursor ≤ length marks
  pub past : IsPast cursor marks
