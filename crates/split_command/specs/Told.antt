-- What `split` tells of a long log.
use Rattle.std.specs.Prelude.{◌≡◌, ℕ, ◌<◌, List, length, take, Option, Some, Result, Ok, Err}
use Rattle.std.specs.Io.KnownBytes.{Appends}
use Rattle.output.specs.Sinks.{one_more}
use Rattle.session_log.specs.Text.{ClientSession, log_text, least_version}
use Rattle.log_definitions.specs.Unknown.{resolved}
use Rattle.long_log_definitions.specs.LongLog.{IsLongLog, IsLongLogFault}
use Rattle.point_laws.specs.Split.{split_writers}
use Rattle.splitting.specs.Locks.{locks_of, no_room, HasRoom}
use Rattle.splitting.specs.declared.room.NoRoom.{NoRoom}
use Rattle.split_command.specs.declared.fault.SplitFault.{SplitFault}
use Rattle.split_command.specs.declared.fault.SplitFault.TheVariants.{Log, Locks, Output}

-- the split log, outcomes being known
abbrev pub split_log : List ClientSession → List ClientSession
split_log ss = split_writers (locks_of (resolved ss)) (resolved ss)

-- its text
abbrev pub split_text : List ClientSession → List ℕ
split_text ss = log_text (least_version (split_log ss)) (split_log ss)

-- this is the text of the split log of a long log
pub record IsSplitText (log text : List ℕ) : Type 0 where
  pub sessions : List ClientSession
  pub long : IsLongLog log sessions
  pub room : HasRoom (resolved sessions)
  pub is : text ≡ split_text sessions

-- the locks of a long log have no room
pub record HasNoRoom (log : List ℕ) (why : NoRoom) : Type 0 where
  pub sessions : List ClientSession
  pub long : IsLongLog log sessions
  pub none : no_room (resolved sessions) ≡ Some why

-- why a text has no split log; an output has no part in it
abbrev pub IsRefusal : List ℕ → SplitFault → Type 0
IsRefusal log (Log fault) = IsLongLogFault log fault
IsRefusal log (Locks why) = HasNoRoom log why
IsRefusal log (Output written) = ⊥

-- the text was put into the sink
pub record IsTold (log : List ℕ) (old new : Option (List ℕ)) : Type 0 where
  pub text : List ℕ
  pub is : IsSplitText log text
  pub told : Appends old new text

-- its first bytes were, and not all
pub record IsCutShort (log : List ℕ) (written : ℕ) (old new : Option (List ℕ)) : Type 0 where
  pub text : List ℕ
  pub is : IsSplitText log text
  pub less : written < length text
  pub told : Appends old new (take written text)

-- nothing was put into the sink where the log is refused, and the first bytes where the sink failed
abbrev pub IsUntold : List ℕ → Option (List ℕ) → Option (List ℕ) → SplitFault → Type 0
IsUntold log old new (Log fault) = IsRefusal log (Log fault) × (new ≡ old)
IsUntold log old new (Locks why) = IsRefusal log (Locks why) × (new ≡ old)
IsUntold log old new (Output written) = IsCutShort log written old new

-- the sink failed in this call exactly where it is told that it did
abbrev pub failures_after : {X : Type 0} → ℕ → Result X SplitFault → ℕ
failures_after before (Ok told) = before
failures_after before (Err (Output written)) = one_more before
failures_after before (Err _) = before
