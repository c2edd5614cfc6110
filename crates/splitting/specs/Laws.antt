-- The laws of the locks' names, and of the split log without locks.
use Rattle.std.specs.Prelude.{◌↔◌, List}
use Rattle.std.specs.List.{AllByRecursion}
use Rattle.session_log.specs.Text.{ClientSession, IsLegal}
use Rattle.log_definitions.specs.Unknown.{resolved}
use Rattle.log_laws.specs.Logs.{IsSoundLog, IsLog, HasOrder}
use Rattle.point_laws.specs.Snapshot.{HasSnapshotOrder, HasPrefixOrder}
use Rattle.point_laws.specs.Split.{AreFresh, AreLegalLocks, split_writers}
use Rattle.point_laws.specs.Prefix.{no_locks}
use Rattle.splitting.specs.Locks.{locks_of, HasRoom}

-- Where the names have room, the locks are fresh, and a log can hold them.
abbrev pub LocksAreFresh : Type 0
LocksAreFresh = (ss : List ClientSession) → AllByRecursion IsLegal ss → IsSoundLog ss → HasRoom ss
    → AreFresh (locks_of ss) ss × AreLegalLocks (locks_of ss) ss

-- So a log whose outcomes are known has a snapshot order exactly where its split log, which can be
-- judged by itself, has a serial order.
abbrev pub SnapshotBySplitLog : Type 0
SnapshotBySplitLog = (ss : List ClientSession) → IsLog ss → HasRoom ss
    → IsLog (split_writers (locks_of ss) ss)
    × (HasSnapshotOrder ss ↔ HasOrder (split_writers (locks_of ss) ss))

-- And where outcomes are unknown, the log is split once it is resolved.
abbrev pub SnapshotByResolvedSplit : Type 0
SnapshotByResolvedSplit =
    (ss : List ClientSession) → AllByRecursion IsLegal ss → IsSoundLog ss → HasRoom (resolved ss)
    → IsLog (split_writers (locks_of (resolved ss)) (resolved ss))
    × (HasSnapshotOrder ss ↔ HasOrder (split_writers (locks_of (resolved ss)) (resolved ss)))

-- Without locks it has a prefix order exactly there, and this needs no room.
abbrev pub PrefixBySplitLog : Type 0
PrefixBySplitLog = (ss : List ClientSession) → IsLog ss
    → IsLog (split_writers no_locks ss)
    × (HasPrefixOrder ss ↔ HasOrder (split_writers no_locks ss))
