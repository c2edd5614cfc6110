-- Rounds of a run, and how they are joined.
use Rattle.std.specs.Prelude.{◌≡◌, ◌⊎◌, ℕ, ◌<◌, ◌==◌, not, Bool, true, false, if◌then◌else◌, List, [], ◌∷◌, ◌++◌, map}
use Rattle.std.specs.List.{filter, flat_map, list_any, AllByRecursion, Contains}
use Rattle.std.specs.Str.{bytes_eq}
use Rattle.session_log.specs.Moments.{is_earlier}
use Rattle.session_log.specs.Text.{ClientSession, Transaction, key_of, is_write}
use Rattle.session_log.specs.declared.session.Op.{Op}
use Rattle.session_log.specs.declared.session.Op.TheVariants.{Read, Write}
use Rattle.log_definitions.specs.Unknown.{committed_ops}
use Rattle.log_definitions.specs.Serial.{Committed, committed_in, Map, initial, set}
use Rattle.log_laws.specs.Logs.{IsSoundLog, IsLearntLog, HasOrder}
use Rattle.point_laws.specs.Snapshot.{snapshot_reads, HasSnapshotOrder, HasPrefixOrder}

-- the number of the keeper's session, and the key of its fence
pub record Keeper : Type 0 where
  pub session : ℕ
  pub fence : List ℕ

-- ---- what comes before what

-- The one comes before the other in every order of these nodes, by what was read and by sessions:
-- they are one node; or the one stands before a node of its session that leads to the other; or
-- such a node reads from its snapshot what the one writes.
pub data Leads (nodes : List Committed) : Committed → Committed → Type 0 where
  itself : (a : Committed) → Leads nodes a a
  by_session : (a b c : Committed) → Contains nodes b → a.session ≡ b.session → a.place < b.place
      → Leads nodes b c → Leads nodes a c
  by_read : (a b c : Committed) (key : List ℕ) (wid : ℕ) → Contains nodes b
      → Contains a.ops (Write key wid) → Contains (snapshot_reads b.ops) (Read key wid)
      → Leads nodes b c → Leads nodes a c

-- ---- the opening of a round, with its fence alone

abbrev pub is_fence : Keeper → Op → Bool
is_fence keeper o = bytes_eq keeper.fence (key_of o)

abbrev pub is_value : Keeper → Op → Bool
is_value keeper o = not (is_fence keeper o)

abbrev pub bare_txn : Keeper → Transaction → Transaction
bare_txn keeper t = record {
  ops = filter (is_fence keeper) t.ops;
  outcome = t.outcome;
  begun = t.begun;
  ended = t.ended;
}

abbrev pub bare_txns : Keeper → List Transaction → List Transaction
bare_txns keeper [] = []
bare_txns keeper (t ∷ ts) = bare_txn keeper t ∷ ts

-- the keeper's first transaction loses what is no fence
abbrev pub bare : Keeper → List ClientSession → List ClientSession
bare keeper ss = map (λ s. record {
  number = s.number;
  txns = if s.number == keeper.session then bare_txns keeper s.txns else s.txns;
}) ss

abbrev pub bare_node : Keeper → Committed → Committed
bare_node keeper c = record {
  session = c.session;
  place = c.place;
  ops = filter (is_fence keeper) c.ops;
  begun = c.begun;
  ended = c.ended;
}

-- ---- logs joined

abbrev pub txns_at : List ClientSession → ℕ → List Transaction
txns_at ss n = flat_map (λ s. if s.number == n then s.txns else []) ss

abbrev pub has_number : List ClientSession → ℕ → Bool
has_number ss n = list_any (λ s. s.number == n) ss

-- session by session, the one's transactions and then the other's
abbrev pub joined : List ClientSession → List ClientSession → List ClientSession
joined first second =
    map (λ s. record { number = s.number; txns = s.txns ++ txns_at second s.number }) first
    ++ filter (λ s. not (has_number first s.number)) second

-- a round behind a run: of its opening the fence is left
abbrev pub run_of_two : Keeper → List ClientSession → List ClientSession → List ClientSession
run_of_two keeper first second = joined first (bare keeper second)

-- ---- what makes rounds of logs

-- a node of the keeper's that all nodes lead to
pub record IsClosed (keeper : Keeper) (ss : List ClientSession) : Type 0 where
  pub closing : Committed
  pub is_node : Contains (committed_in ss) closing
  pub session : closing.session ≡ keeper.session
  pub last : (a : Committed) → Contains (committed_in ss) a → Leads (committed_in ss) a closing

-- The keeper's first transaction, which reads nothing, leads to all nodes, by its fence alone.
pub record IsOpened (keeper : Keeper) (ss : List ClientSession) : Type 0 where
  pub opening : Committed
  pub is_node : Contains (committed_in ss) opening
  pub session : opening.session ≡ keeper.session
  pub place : opening.place ≡ 1
  pub writes : AllByRecursion (λ o. is_write o ≡ true) opening.ops
  pub first : (a : Committed) → Contains (committed_in (bare keeper ss)) a
      → Leads (committed_in (bare keeper ss)) (bare_node keeper opening) a

-- ---- the seam of two rounds

-- some node reads the key as this identity and does not write it, and each that writes it leads to
-- that one
pub record IsReadLast (nodes : List Committed) (key : List ℕ) (wid : ℕ) : Type 0 where
  pub reader : Committed
  pub is_node : Contains nodes reader
  pub reads : Contains reader.ops (Read key wid)
  pub leaves : (v : ℕ) → Contains reader.ops (Write key v) → ⊥
  pub behind : (a : Committed) (v : ℕ) → Contains nodes a → Contains a.ops (Write key v)
      → Leads nodes a reader

-- none writes the key, and it is 0
pub record IsUnwritten (nodes : List Committed) (key : List ℕ) (wid : ℕ) : Type 0 where
  pub zero : wid ≡ 0
  pub none : (a : Committed) (v : ℕ) → Contains nodes a → Contains a.ops (Write key v) → ⊥

-- behind these nodes the key has this identity, in every order
abbrev pub IsLeft : List Committed → List ℕ → ℕ → Type 0
IsLeft nodes key wid = IsUnwritten nodes key wid ⊎ IsReadLast nodes key wid

-- the map behind these operations
abbrev pub map_behind : Map → List Op → Map
map_behind map [] = map
map_behind map (Read key wid ∷ ops) = map_behind map ops
map_behind map (Write key wid ∷ ops) = map_behind (set map key wid) ops

-- what the opening says that keys held
abbrev pub values : Keeper → Committed → Map
values keeper opening = map_behind initial (filter (is_value keeper) opening.ops)

-- A round fits behind a run: it has an opening where the run has a closing, both are logs, and so
-- is the one behind the other; and each read of the round names what the round wrote, or is of a
-- key that the run leaves as the opening says.
pub record IsSeam (keeper : Keeper) (first second : List ClientSession) : Type 0 where
  pub closed : IsClosed keeper first
  pub opened : IsOpened keeper second
  pub sound_first : IsSoundLog first
  pub sound_second : IsSoundLog second
  pub sound : IsSoundLog (run_of_two keeper first second)
  pub learnt_first : IsLearntLog first
  pub learnt_second : IsLearntLog second
  pub held : (key : List ℕ) (wid : ℕ) → Contains (committed_ops (bare keeper second)) (Read key wid)
      → Contains (committed_ops (bare keeper second)) (Write key wid)
      ⊎ IsLeft (committed_in first) key (values keeper opened.opening key)

-- no transaction of the round ended before one of the run began
abbrev pub IsInTime : List ClientSession → List ClientSession → Type 0
IsInTime first second = (a b : Committed) → Contains (committed_in first) a
    → Contains (committed_in second) b → is_earlier b.ended a.begun ≡ false

-- ---- the laws, of a kind of order

-- where the run has one, both rounds have one
abbrev pub BothOfRun : (List ClientSession → Type 0) → Type 0
BothOfRun HasOne = (keeper : Keeper) (first second : List ClientSession)
    → IsSeam keeper first second → HasOne (run_of_two keeper first second)
    → HasOne first × HasOne second

-- and the other way round
abbrev pub RunOfBoth : (List ClientSession → Type 0) → Type 0
RunOfBoth HasOne = (keeper : Keeper) (first second : List ClientSession)
    → IsSeam keeper first second → IsInTime first second → HasOne first → HasOne second
    → HasOne (run_of_two keeper first second)

-- ---- of serial, snapshot and prefix orders

abbrev pub OrdersOfRounds : Type 0
OrdersOfRounds = BothOfRun HasOrder

abbrev pub SnapshotsOfRounds : Type 0
SnapshotsOfRounds = BothOfRun HasSnapshotOrder

abbrev pub PrefixesOfRounds : Type 0
PrefixesOfRounds = BothOfRun HasPrefixOrder

abbrev pub OrderOfRun : Type 0
OrderOfRun = RunOfBoth HasOrder

abbrev pub SnapshotOfRun : Type 0
SnapshotOfRun = RunOfBoth HasSnapshotOrder

abbrev pub PrefixOfRun : Type 0
PrefixOfRun = RunOfBoth HasPrefixOrder
