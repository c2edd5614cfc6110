-- Which reason is given.
use Rattle.std.specs.Prelude.{◌≡◌, ℕ, ◌≤◌, List}
use Rattle.session_log.specs.Text.{ClientSession}
use Rattle.session_log.specs.declared.session.Op.TheVariants.{Write}
use Rattle.log_definitions.specs.WellFormed.{keys_in}
use Rattle.log_definitions.specs.Numbers.{number_in}
use Rattle.reason_laws.specs.Reasons.{AreOfSession, IsReadBy, IsOverwrittenBy, IsOfInitialBefore, EndsBefore, IsOpAt}
use Rattle.reasons.specs.declared.reason.Reason.{Reason}
use Rattle.reasons.specs.declared.reason.Reason.TheVariants as reason

-- what the reason says holds of the log, with these operations
abbrev pub IsReason : List ClientSession → ℕ → ℕ → Reason → Type 0
IsReason ss a b reason.Session = AreOfSession ss a b
IsReason ss a b (reason.Read written read) = IsReadBy ss a written b read
IsReason ss a b (reason.Overwritten read overwrites) = IsOverwrittenBy ss a read b overwrites
IsReason ss a b (reason.Initial read begins) = IsOfInitialBefore ss a read b begins
IsReason ss a b reason.Moments = EndsBefore ss a b

-- ---- no reason of a kind
abbrev pub NoneRead : List ClientSession → ℕ → ℕ → Type 0
NoneRead ss a b = (i j : ℕ) → IsReadBy ss a i b j → ⊥

abbrev pub NoneOverwritten : List ClientSession → ℕ → ℕ → Type 0
NoneOverwritten ss a b = (i j : ℕ) → IsOverwrittenBy ss a i b j → ⊥

abbrev pub NoneInitial : List ClientSession → ℕ → ℕ → Type 0
NoneInitial ss a b = (i j : ℕ) → IsOfInitialBefore ss a i b j → ⊥

-- none of the kinds that stand before this one has a reason: read, session, overwritten, initial,
-- moments
abbrev pub IsOfFirstKind : List ClientSession → ℕ → ℕ → Reason → Type 0
IsOfFirstKind ss a b (reason.Read written read) = Unit {0}
IsOfFirstKind ss a b reason.Session = NoneRead ss a b
IsOfFirstKind ss a b (reason.Overwritten read overwrites) = NoneRead ss a b
    × (¬ AreOfSession ss a b)
IsOfFirstKind ss a b (reason.Initial read begins) = NoneRead ss a b × (¬ AreOfSession ss a b)
    × NoneOverwritten ss a b
IsOfFirstKind ss a b reason.Moments = NoneRead ss a b × (¬ AreOfSession ss a b)
    × NoneOverwritten ss a b × NoneInitial ss a b

-- no kind has a reason
pub record HaveNone (ss : List ClientSession) (a b : ℕ) : Type 0 where
  pub session : ¬ AreOfSession ss a b
  pub read : NoneRead ss a b
  pub overwritten : NoneOverwritten ss a b
  pub initial : NoneInitial ss a b
  pub moments : ¬ EndsBefore ss a b

-- ---- no lesser operations would do
-- no earlier operation of b reads a write of a, and the write is no later than any that this one
-- reads
pub record IsLeastRead (ss : List ClientSession) (a written b read : ℕ) : Type 0 where
  pub second : (i j : ℕ) → IsReadBy ss a i b j → read ≤ j
  pub first : (i : ℕ) → IsReadBy ss a i b read → written ≤ i

-- no key of a lesser number would do, and of this key no earlier read of a and no earlier write of
-- b
pub record IsLeastOverwrite (ss : List ClientSession) (a read b overwrites : ℕ) : Type 0 where
  pub key : List ℕ
  pub wid : ℕ
  pub writes : IsOpAt ss b overwrites (Write key wid)
  pub keys : (i j : ℕ) (other : IsOverwrittenBy ss a i b j)
      → number_in (keys_in ss) key ≤ number_in (keys_in ss) other.key
  pub first : (i j : ℕ) (other : IsOverwrittenBy ss a i b j) → other.key ≡ key → read ≤ i
  pub second : (i j : ℕ) (other : IsOverwrittenBy ss a i b j) → other.key ≡ key → overwrites ≤ j

-- no earlier write of b begins a chain there, and no earlier read of a would do for this one
pub record IsLeastInitial (ss : List ClientSession) (a read b begins : ℕ) : Type 0 where
  pub second : (i j : ℕ) → IsOfInitialBefore ss a i b j → begins ≤ j
  pub first : (i : ℕ) → IsOfInitialBefore ss a i b begins → read ≤ i

abbrev pub IsLeast : List ClientSession → ℕ → ℕ → Reason → Type 0
IsLeast ss a b reason.Session = Unit {0}
IsLeast ss a b (reason.Read written read) = IsLeastRead ss a written b read
IsLeast ss a b (reason.Overwritten read overwrites) = IsLeastOverwrite ss a read b overwrites
IsLeast ss a b (reason.Initial read begins) = IsLeastInitial ss a read b begins
IsLeast ss a b reason.Moments = Unit {0}
