-- The rule of fences, and that it makes rounds.
use Rattle.std.specs.Prelude.{◌≡◌, ◌≢◌, ℕ, ◌≤◌, true, List}
use Rattle.std.specs.List.{AllByRecursion, Contains}
use Rattle.session_log.specs.Text.{ClientSession, is_write}
use Rattle.session_log.specs.declared.session.Op.TheVariants.{Read, Write}
use Rattle.log_definitions.specs.Serial.{Committed, committed_in}
use Rattle.log_laws.specs.Logs.{IsSoundLog, IsLearntLog}
use Rattle.point_laws.specs.Snapshot.{snapshot_reads}
use Rattle.round_laws.specs.Rounds.{Keeper, IsClosed, IsReadLast}
use Rattle.round_laws.specs.Runs.{IsRound}

-- of the nodes of its session
abbrev pub IsFirst : List Committed → Committed → Type 0
IsFirst nodes n = (m : Committed) → Contains nodes m → m.session ≡ n.session → n.place ≤ m.place

abbrev pub IsLast : List Committed → Committed → Type 0
IsLast nodes n = (m : Committed) → Contains nodes m → m.session ≡ n.session → m.place ≤ n.place

-- a write of the one is read by the other
pub record IsReadBy (n reader : Committed) : Type 0 where
  pub key : List ℕ
  pub wid : ℕ
  pub writes : Contains n.ops (Write key wid)
  pub reads : Contains (snapshot_reads reader.ops) (Read key wid)

-- The keeper's first transaction reads nothing and writes its fence, which the first node of each
-- other session reads; and the keeper's last node reads a write of the last node of each other
-- session.
pub record AreFenced (keeper : Keeper) (ss : List ClientSession) : Type 0 where
  pub opening : Committed
  pub is_node : Contains (committed_in ss) opening
  pub session : opening.session ≡ keeper.session
  pub place : opening.place ≡ 1
  pub writes : AllByRecursion (λ o. is_write o ≡ true) opening.ops
  pub wid : ℕ
  pub fence : Contains opening.ops (Write keeper.fence wid)
  pub begins : (n : Committed) → Contains (committed_in ss) n → n.session ≢ keeper.session
      → IsFirst (committed_in ss) n → Contains (snapshot_reads n.ops) (Read keeper.fence wid)
  pub closing : Committed
  pub is_last_node : Contains (committed_in ss) closing
  pub last_session : closing.session ≡ keeper.session
  pub last : IsLast (committed_in ss) closing
  pub ends : (n : Committed) → Contains (committed_in ss) n → n.session ≢ keeper.session
      → IsLast (committed_in ss) n → IsReadBy n closing

-- a sound log with fences is a round
abbrev pub FencesMakeRounds : Type 0
FencesMakeRounds = (keeper : Keeper) (ss : List ClientSession) → IsSoundLog ss → IsLearntLog ss
    → AreFenced keeper ss → IsRound keeper ss

-- and what its closing reads, and does not write, keys are left with
abbrev pub ClosingLeaves : Type 0
ClosingLeaves = (keeper : Keeper) (ss : List ClientSession) (closed : IsClosed keeper ss)
    (key : List ℕ) (wid : ℕ) → Contains closed.closing.ops (Read key wid)
    → ((v : ℕ) → Contains closed.closing.ops (Write key v) → ⊥)
    → IsReadLast (committed_in ss) key wid
