-- Levels of isolation. Those of serial orders and of points are serializability, of the log itself or
-- of the log in which writers are split in two; those below say what a read sees.
use Rattle.std.specs.Prelude.{◌≡◌, ℕ, Bool, true, false, List, map, Some}
use Rattle.session_log.specs.Text.{ClientSession, view}
use Rattle.log_definitions.specs.Unknown.{resolved}
use Rattle.log_definitions.specs.Serial.{committed_in, IsSerialOrder}
use Rattle.log_laws.specs.Logs.{HasOrder, IsLearntLog}
use Rattle.numbered_log.specs.Numbering.{IsNumbering}
use Rattle.numbered_log.specs.declared.log.NumberedLog.{NumberedLog}
use Rattle.point_laws.specs.Snapshot.{HasSnapshotOrder, HasSomeSnapshotOrder, HasPrefixOrder, HasSomePrefixOrder}
use Rattle.point_laws.specs.Split.{split_writers}
use Rattle.point_laws.specs.Prefix.{no_locks}
use Rattle.level_laws.specs.Seen.{IsLevelOrder, HasLevelOrder, HasSomeLevelOrder}
use Rattle.splitting.specs.Locks.{locks_of, HasRoom, no_room}
use Rattle.deciding.specs.Decides.{HasNoOrder}
use Rattle.judging.specs.declared.level.Level.{Level}
use Rattle.judging.specs.declared.level.Level.TheVariants.{Serializable, Snapshot, Prefix, Below}
use Rattle.judging.specs.declared.level.LevelLog.{LevelLog}
use Rattle.judging.specs.declared.level.LevelLog.TheVariants.{Itself, Split, NoRoom}

-- whether the log is judged in which writers are split in two
abbrev pub is_split : Level → Bool
is_split Serializable = false
is_split Snapshot = true
is_split Prefix = true
is_split (Below below) = false

-- the log whose orders are asked for
abbrev pub judged_at : Level → List ClientSession → List ClientSession
judged_at Serializable ss = ss
judged_at Snapshot ss = split_writers (locks_of ss) (resolved ss)
judged_at Prefix ss = split_writers no_locks (resolved ss)
judged_at (Below below) ss = ss

-- the committed and the taken transactions have an order of this level
abbrev pub HasOrderAt : Level → List ClientSession → Type 0
HasOrderAt Serializable ss = HasOrder ss
HasOrderAt Snapshot ss = HasSnapshotOrder ss
HasOrderAt Prefix ss = HasPrefixOrder ss
HasOrderAt (Below below) ss = HasLevelOrder below ss

-- no order of this level explains the committed and any unknown transactions
abbrev pub HasNoOrderAt : Level → List ClientSession → Type 0
HasNoOrderAt Serializable ss = HasNoOrder ss
HasNoOrderAt Snapshot ss = HasSomeSnapshotOrder ss → ⊥
HasNoOrderAt Prefix ss = HasSomePrefixOrder ss → ⊥
HasNoOrderAt (Below below) ss = HasSomeLevelOrder below ss → ⊥

-- where locks are needed, they have room
abbrev pub HasRoomAt : Level → List ClientSession → Type 0
HasRoomAt Snapshot ss = HasRoom ss
HasRoomAt _ ss = Unit {0}

-- an order of the log that is judged: a serial one, or one of the level itself
abbrev pub IsOrderIn : Level → List ClientSession → List ℕ → Type 0
IsOrderIn (Below below) judged order = IsLevelOrder below judged order
IsOrderIn _ judged order = IsSerialOrder judged order

-- the log has an order of this level, and this is an order of the log that is judged for it
pub record IsOrderAt (level : Level) (ss : List ClientSession) (order : List ℕ) : Type 0 where
  pub has : HasOrderAt level ss
  pub room : HasRoomAt level ss
  pub judged : IsOrderIn level (judged_at level ss) order

-- the serial orders of this log are asked for one whose outcomes are known: itself, or its split log,
-- where its locks have room; below prefix those of no log are
abbrev pub IsJudgedAt : Level → List ClientSession → List ClientSession → Type 0
IsJudgedAt Serializable ss judged = judged ≡ ss
IsJudgedAt Snapshot ss judged = HasRoom ss × (judged ≡ split_writers (locks_of ss) ss)
IsJudgedAt Prefix ss judged = judged ≡ split_writers no_locks ss
IsJudgedAt (Below below) ss judged = ⊥

-- what is judged for a log whose outcomes are known: itself, or its split log, where its locks have
-- room
abbrev pub IsLogAt : Level → List ClientSession → LevelLog → Type 0
IsLogAt level ss Itself = is_split level ≡ false
IsLogAt level ss (Split split) = (is_split level ≡ true)
    × IsJudgedAt level ss (map view split.items)
IsLogAt level ss (NoRoom why) = (level ≡ Snapshot) × (no_room ss ≡ Some why)

-- the log whose orders are proposed: what is judged, and the log itself where that is nothing
abbrev pub judged_in : List ClientSession → LevelLog → List ClientSession
judged_in ss Itself = ss
judged_in ss (Split split) = map view split.items
judged_in ss (NoRoom why) = ss

-- this is the log by numbers, where its outcomes are known
abbrev pub IsNumbered : List ClientSession → NumberedLog → Type 0
IsNumbered ss log = IsLearntLog ss → IsNumbering ss (committed_in ss) log
