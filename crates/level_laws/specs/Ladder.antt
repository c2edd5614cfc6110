-- Which level implies which.
use Rattle.std.specs.Prelude.{ℕ, List}
use Rattle.session_log.specs.Text.{ClientSession}
use Rattle.log_laws.specs.Logs.{IsSoundLog, HasOrder}
use Rattle.point_laws.specs.Snapshot.{HasSnapshotOrder, HasPrefixOrder}
use Rattle.level_laws.specs.declared.level.Level.{Level}
use Rattle.level_laws.specs.declared.level.Level.TheVariants.{ReadCommitted, MonotonicAtomicView, ReadAtomic, Causal}
use Rattle.level_laws.specs.Seen.{IsLevelOrder, HasLevelOrder}

-- a causal order is one of read atomic
abbrev pub AtomicWhereCausal : Type 0
AtomicWhereCausal = (ss : List ClientSession) (order : List ℕ) → IsLevelOrder Causal ss order
    → IsLevelOrder ReadAtomic ss order

-- that is one of monotonic atomic view
abbrev pub ViewWhereAtomic : Type 0
ViewWhereAtomic = (ss : List ClientSession) (order : List ℕ) → IsLevelOrder ReadAtomic ss order
    → IsLevelOrder MonotonicAtomicView ss order

-- and that is one of read committed
abbrev pub CommittedWhereView : Type 0
CommittedWhereView = (ss : List ClientSession) (order : List ℕ)
    → IsLevelOrder MonotonicAtomicView ss order → IsLevelOrder ReadCommitted ss order

-- a log that has a snapshot order has one at each level
abbrev pub LevelWhereSnapshot : Type 0
LevelWhereSnapshot = (level : Level) (ss : List ClientSession) → IsSoundLog ss → HasSnapshotOrder ss
    → HasLevelOrder level ss

-- and so has one that has a prefix order
abbrev pub LevelWherePrefix : Type 0
LevelWherePrefix = (level : Level) (ss : List ClientSession) → IsSoundLog ss → HasPrefixOrder ss
    → HasLevelOrder level ss

-- and one that has a serial order
abbrev pub LevelWhereSerial : Type 0
LevelWhereSerial = (level : Level) (ss : List ClientSession) → IsSoundLog ss → HasOrder ss
    → HasLevelOrder level ss
