-- Runs of many rounds. Lists of rounds have the newest first.
use Rattle.std.specs.Prelude.{◌⊎◌, ◌↔◌, ℕ, List, [], ◌∷◌}
use Rattle.std.specs.List.{AllByRecursion, Contains}
use Rattle.session_log.specs.Text.{ClientSession}
use Rattle.session_log.specs.declared.session.Op.TheVariants.{Read, Write}
use Rattle.log_definitions.specs.Unknown.{committed_ops}
use Rattle.log_definitions.specs.Serial.{committed_in}
use Rattle.log_laws.specs.Logs.{IsSoundLog, IsLearntLog, HasOrder}
use Rattle.point_laws.specs.Snapshot.{HasSnapshotOrder, HasPrefixOrder}
use Rattle.point_laws.specs.Without.{without_moments}
use Rattle.round_laws.specs.Rounds.{Keeper, bare, run_of_two, IsClosed, IsOpened, IsReadLast, IsLeft, values, IsInTime}

-- a log with an opening and a closing
pub record IsRound (keeper : Keeper) (ss : List ClientSession) : Type 0 where
  pub sound : IsSoundLog ss
  pub learnt : IsLearntLog ss
  pub opened : IsOpened keeper ss
  pub closed : IsClosed keeper ss

abbrev pub Round : Type 0
Round = List ClientSession

abbrev pub run_of : Keeper → List Round → Round
run_of keeper [] = []
run_of keeper (r ∷ []) = r
run_of keeper (r ∷ e ∷ earlier) = run_of_two keeper (run_of keeper (e ∷ earlier)) r

-- What a key holds behind these rounds: what the newest leaves, by a last read, or, where it does
-- not write the key but for what it had, what the key held behind the others.
pub data IsHeld (keeper : Keeper) : List Round → List ℕ → ℕ → Type 0 where
  first_leaves : (r : Round) (key : List ℕ) (wid : ℕ) → IsLeft (committed_in r) key wid
      → IsHeld keeper (r ∷ []) key wid
  newest_leaves : (r e : Round) (earlier : List Round) (key : List ℕ) (wid : ℕ)
      → IsReadLast (committed_in r) key wid → IsHeld keeper (r ∷ e ∷ earlier) key wid
  others_leave : (r e : Round) (earlier : List Round) (key : List ℕ) (wid : ℕ)
      → ((v : ℕ) → Contains (committed_ops (bare keeper r)) (Write key v) → ⊥)
      → IsHeld keeper (e ∷ earlier) key wid → IsHeld keeper (r ∷ e ∷ earlier) key wid

-- each read of the round names what the round wrote, or is of a key of which the opening says what
-- it held
abbrev pub Fits : (keeper : Keeper) → List Round → (r : Round) → IsOpened keeper r → Type 0
Fits keeper earlier r opened = (key : List ℕ) (wid : ℕ)
    → Contains (committed_ops (bare keeper r)) (Read key wid)
    → Contains (committed_ops (bare keeper r)) (Write key wid)
    ⊎ IsHeld keeper earlier key (values keeper opened.opening key)

-- one round or more, each of which fits behind those before it, and no identity is written twice in
-- their run
abbrev pub AreRounds : Keeper → List Round → Type 0
AreRounds keeper [] = ⊥
AreRounds keeper (r ∷ []) = IsRound keeper r
AreRounds keeper (r ∷ e ∷ earlier) = AreRounds keeper (e ∷ earlier)
    × ((round : IsRound keeper r) × Fits keeper (e ∷ earlier) r round.opened)
    × IsSoundLog (run_of keeper (r ∷ e ∷ earlier))

-- no transaction of a round ended before one of an earlier round began
abbrev pub AreInTime : List Round → Type 0
AreInTime [] = Unit {0}
AreInTime (r ∷ earlier) = AllByRecursion (λ e. IsInTime e r) earlier × AreInTime earlier

-- ---- the laws, of a kind of order

-- where the run has one, each of its rounds has one
abbrev pub EachOfRun : (Round → Type 0) → Type 0
EachOfRun HasOne = (keeper : Keeper) (rounds : List Round) → AreRounds keeper rounds
    → HasOne (run_of keeper rounds) → AllByRecursion HasOne rounds

-- and the other way round
abbrev pub RunOfEach : (Round → Type 0) → Type 0
RunOfEach HasOne = (keeper : Keeper) (rounds : List Round) → AreRounds keeper rounds
    → AreInTime rounds → AllByRecursion HasOne rounds → HasOne (run_of keeper rounds)

-- Without moments no more is asked than that they are rounds: the run has one exactly where each
-- round has one.
abbrev pub RunAsEach : (Round → Type 0) → Type 0
RunAsEach HasOne = (keeper : Keeper) (rounds : List Round) → AreRounds keeper rounds →
    (HasOne (without_moments (run_of keeper rounds))
    ↔ AllByRecursion (λ r. HasOne (without_moments r)) rounds)

-- ---- of serial, snapshot and prefix orders

abbrev pub OrdersOfRun : Type 0
OrdersOfRun = EachOfRun HasOrder

abbrev pub SnapshotsOfRun : Type 0
SnapshotsOfRun = EachOfRun HasSnapshotOrder

abbrev pub PrefixesOfRun : Type 0
PrefixesOfRun = EachOfRun HasPrefixOrder

abbrev pub OrderOfRounds : Type 0
OrderOfRounds = RunOfEach HasOrder

abbrev pub SnapshotOfRounds : Type 0
SnapshotOfRounds = RunOfEach HasSnapshotOrder

abbrev pub PrefixOfRounds : Type 0
PrefixOfRounds = RunOfEach HasPrefixOrder

abbrev pub OrdersWithoutMoments : Type 0
OrdersWithoutMoments = RunAsEach HasOrder

abbrev pub SnapshotsWithoutMoments : Type 0
SnapshotsWithoutMoments = RunAsEach HasSnapshotOrder

abbrev pub PrefixesWithoutMoments : Type 0
PrefixesWithoutMoments = RunAsEach HasPrefixOrder
