-- Why a call of `split` ends without an answer.
use Rattle.std.specs.Prelude.{◌≡◌, ℕ, List, ◌++◌, codes, decimal, Option}
use Rattle.session_log.specs.declared.fault.LogFault.{LogFault}
use Rattle.long_log_definitions.specs.LongLog.{IsLongLogFault}
use Rattle.splitting.specs.declared.room.NoRoom.{NoRoom}
use Rattle.splitting.specs.declared.room.NoRoom.TheVariants.{Keys, Identities}
use Rattle.split_command.specs.Told.{HasNoRoom, IsCutShort}
use Rattle.cobra_answers.specs.declared.stop.Stop.TheVariants as stop
use Rattle.cobra_calls.specs.declared.ending.Ending.{Ending}
use Rattle.cobra_calls.specs.declared.ending.Ending.TheVariants.{Stop}
use Rattle.cobra_calls.specs.Endings.{IsLogRefusal, IsUsage}

-- the line that says that the locks of a log of this name have no room
abbrev pub no_room_line : List ℕ → NoRoom → List ℕ
no_room_line name (Keys longest marks) =
    name ++ (codes ": no room for the locks: a key of the log has " ++ (decimal longest
    ++ (codes " bytes and its lock " ++ (decimal marks
    ++ codes " more, and a key has at most 64"))))
no_room_line name (Identities largest writes) =
    name ++ (codes ": no room for the locks: the identities of the log reach " ++ (decimal largest
    ++ (codes ", and above it are not as many as its " ++ (decimal writes ++ codes " writes"))))

-- such a line is told, or memory was refused
abbrev pub IsNoRoomTold : List ℕ → NoRoom → Ending → Type 0
IsNoRoomTold name why e = IsUsage (no_room_line name why) e

-- for the log's fault or the locks, and nothing was told; or where the sink failed
pub data IsSplitEnding (name log : List ℕ) (old new : Option (List ℕ)) (e : Ending) : Type 0 where
  by_log : (f : LogFault) → IsLongLogFault log f → IsLogRefusal name f e → new ≡ old
      → IsSplitEnding name log old new e
  by_locks : (why : NoRoom) → HasNoRoom log why → IsNoRoomTold name why e → new ≡ old
      → IsSplitEnding name log old new e
  by_device : (written : ℕ) → IsCutShort log written old new → e ≡ Stop stop.Output
      → IsSplitEnding name log old new e
