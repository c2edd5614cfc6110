-- Rounds with transactions of unknown outcome.
use Rattle.std.specs.Prelude.{◌≡◌, ◌↔◌, true, List, [], ◌∷◌, map}
use Rattle.std.specs.List.{list_any, AllByRecursion, Contains}
use Rattle.session_log.specs.Text.{ClientSession, Transaction, is_write}
use Rattle.session_log.specs.declared.session.Outcome.TheVariants.{Commit}
use Rattle.log_definitions.specs.Unknown.{is_unknown, taken, resolved}
use Rattle.log_laws.specs.Logs.{HasOrder}
use Rattle.point_laws.specs.Snapshot.{HasSnapshotOrder, HasPrefixOrder}
use Rattle.point_laws.specs.Without.{without_moments}
use Rattle.round_laws.specs.Rounds.{Keeper}
use Rattle.round_laws.specs.Runs.{Round, run_of, AreRounds, AreInTime}

-- each transaction of unknown outcome is taken
abbrev pub AllTaken : List ClientSession → Type 0
AllTaken ss = (s : ClientSession) → Contains ss s → list_any is_unknown s.txns ≡ true
    → taken ss s.number ≡ true

-- the first is known to be committed, and reads nothing
abbrev pub BeginsWithWrites : List Transaction → Type 0
BeginsWithWrites [] = Unit {0}
BeginsWithWrites (t ∷ ts) = (t.outcome ≡ Commit) × AllByRecursion (λ o. is_write o ≡ true) t.ops

-- so in a round: another transaction of unknown outcome is left out of it, and may stand in a later
-- one
pub record IsSettled (keeper : Keeper) (ss : Round) : Type 0 where
  pub taken : AllTaken ss
  pub opening : (s : ClientSession) → Contains ss s → s.number ≡ keeper.session
      → BeginsWithWrites s.txns

-- the run of such rounds, resolved, is that of the resolved ones
abbrev pub ResolvedRun : Type 0
ResolvedRun = (keeper : Keeper) (rounds : List Round) → AllByRecursion (IsSettled keeper) rounds
    → resolved (run_of keeper rounds) ≡ run_of keeper (map resolved rounds)

-- so the laws of a kind of order hold of them
abbrev pub EachOfUnknown : (Round → Type 0) → Type 0
EachOfUnknown HasOne = (keeper : Keeper) (rounds : List Round)
    → AllByRecursion (IsSettled keeper) rounds → AreRounds keeper (map resolved rounds)
    → HasOne (run_of keeper rounds) → AllByRecursion HasOne rounds

abbrev pub RunOfUnknown : (Round → Type 0) → Type 0
RunOfUnknown HasOne = (keeper : Keeper) (rounds : List Round)
    → AllByRecursion (IsSettled keeper) rounds → AreRounds keeper (map resolved rounds)
    → AreInTime (map resolved rounds) → AllByRecursion HasOne rounds
    → HasOne (run_of keeper rounds)

-- and without moments
abbrev pub UnknownAsEach : (Round → Type 0) → Type 0
UnknownAsEach HasOne = (keeper : Keeper) (rounds : List Round)
    → AllByRecursion (IsSettled keeper) rounds → AreRounds keeper (map resolved rounds) →
    (HasOne (without_moments (run_of keeper rounds))
    ↔ AllByRecursion (λ r. HasOne (without_moments r)) rounds)

-- ---- of serial, snapshot and prefix orders

abbrev pub OrdersOfUnknown : Type 0
OrdersOfUnknown = EachOfUnknown HasOrder

abbrev pub SnapshotsOfUnknown : Type 0
SnapshotsOfUnknown = EachOfUnknown HasSnapshotOrder

abbrev pub PrefixesOfUnknown : Type 0
PrefixesOfUnknown = EachOfUnknown HasPrefixOrder

abbrev pub OrderOfUnknown : Type 0
OrderOfUnknown = RunOfUnknown HasOrder

abbrev pub SnapshotOfUnknown : Type 0
SnapshotOfUnknown = RunOfUnknown HasSnapshotOrder

abbrev pub PrefixOfUnknown : Type 0
PrefixOfUnknown = RunOfUnknown HasPrefixOrder

abbrev pub OrdersOfUnknownWithout : Type 0
OrdersOfUnknownWithout = UnknownAsEach HasOrder

abbrev pub SnapshotsOfUnknownWithout : Type 0
SnapshotsOfUnknownWithout = UnknownAsEach HasSnapshotOrder

abbrev pub PrefixesOfUnknownWithout : Type 0
PrefixesOfUnknownWithout = UnknownAsEach HasPrefixOrder
