-- Prefix consistency: of the split log of snapshot isolation, the one without locks.
use Rattle.std.specs.Prelude.{◌↔◌, ℕ, false, List}
use Rattle.std.specs.List.{AllByRecursion}
use Rattle.session_log.specs.Text.{ClientSession, IsLegal}
use Rattle.log_definitions.specs.Unknown.{resolved}
use Rattle.log_definitions.specs.Serial.{IsSerialOrder}
use Rattle.log_laws.specs.Logs.{IsSoundLog, IsLog, HasOrder}
use Rattle.point_laws.specs.Snapshot.{IsPrefixOrder, HasPrefixOrder}
use Rattle.point_laws.specs.Split.{Locks, split_writers}
use Rattle.point_laws.specs.Points.{points_along}

abbrev pub no_locks : Locks
no_locks = record { key = λ key. key; identity = λ wid. wid; taken = false }

-- the log in which each transaction that writes is split in two
abbrev pub bare_split : List ClientSession → List ClientSession
bare_split ss = split_writers no_locks (resolved ss)

-- a log has a prefix order exactly where this one has a serial order
abbrev pub PrefixBySplit : Type 0
PrefixBySplit = (ss : List ClientSession) → IsSoundLog ss
    → (HasPrefixOrder ss ↔ HasOrder (bare_split ss))

-- each serial order of it is, by the points of its transactions, a prefix order
abbrev pub PointsOfPrefix : Type 0
PointsOfPrefix = (ss : List ClientSession) → IsSoundLog ss → (order : List ℕ)
    → IsSerialOrder (bare_split ss) order → IsPrefixOrder ss (points_along ss order)

-- it can be judged by itself
abbrev pub BareSplitIsLog : Type 0
BareSplitIsLog = (ss : List ClientSession) → AllByRecursion IsLegal ss → IsSoundLog ss
    → IsLog (bare_split ss)
