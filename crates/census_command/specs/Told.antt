-- What `audit --census` tells of a long log.
use Rattle.std.specs.Prelude.{◌≡◌, ℕ, ◌<◌, ◌==◌, if◌then◌else◌, List, length, take, Option, Result, Ok, Err}
use Rattle.std.specs.Io.KnownBytes.{Appends}
use Rattle.output.specs.Sinks.{one_more}
use Rattle.session_log.specs.Text.{ClientSession}
use Rattle.log_definitions.specs.Unknown.{resolved}
use Rattle.long_log_definitions.specs.LongLog.{IsLongLog, IsLongLogFault}
use Rattle.cobra_answers.specs.declared.status.Status.{Status}
use Rattle.cobra_answers.specs.declared.status.Status.TheVariants as status
use Rattle.census.specs.Census.{IsCensus}
use Rattle.census.specs.Text.{census_text, total_of}
use Rattle.census.specs.declared.numbers.Census.{Census}
use Rattle.census_command.specs.declared.fault.CensusFault.{CensusFault}
use Rattle.census_command.specs.declared.fault.CensusFault.TheVariants.{Log, Output}

-- this is the census of a long log, outcomes being known
pub record IsCounted (log : List ℕ) (c : Census) : Type 0 where
  pub sessions : List ClientSession
  pub long : IsLongLog log sessions
  pub counts : IsCensus (resolved sessions) c

-- what is counted leaves no serial order; where there is none, nothing was judged
abbrev pub status_of : Census → Status
status_of c = if total_of c == 0 then status.Unknown else status.NotSerializable

-- why a text has no census; an output has no part in it
abbrev pub IsRefusal : List ℕ → CensusFault → Type 0
IsRefusal log (Log fault) = IsLongLogFault log fault
IsRefusal log (Output written) = ⊥

-- the text of the census was put into the sink, and the command ends so
pub record IsTold (log : List ℕ) (old new : Option (List ℕ)) (s : Status) : Type 0 where
  pub census : Census
  pub is : IsCounted log census
  pub told : Appends old new (census_text census)
  pub ends : s ≡ status_of census

-- its first bytes were, and not all
pub record IsCutShort (log : List ℕ) (written : ℕ) (old new : Option (List ℕ)) : Type 0 where
  pub census : Census
  pub is : IsCounted log census
  pub less : written < length (census_text census)
  pub told : Appends old new (take written (census_text census))

-- nothing was put into the sink where the log is refused, and the first bytes where the sink failed
abbrev pub IsUntold : List ℕ → Option (List ℕ) → Option (List ℕ) → CensusFault → Type 0
IsUntold log old new (Log fault) = IsRefusal log (Log fault) × (new ≡ old)
IsUntold log old new (Output written) = IsCutShort log written old new

-- the sink failed in this call exactly where it is told that it did
abbrev pub failures_after : {X : Type 0} → ℕ → Result X CensusFault → ℕ
failures_after before (Ok told) = before
failures_after before (Err (Output written)) = one_more before
failures_after before (Err _) = before
