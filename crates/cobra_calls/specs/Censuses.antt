-- Why a call of `census` ends without an answer.
use Rattle.std.specs.Prelude.{◌≡◌, ℕ, List, Option}
use Rattle.session_log.specs.declared.fault.LogFault.{LogFault}
use Rattle.long_log_definitions.specs.LongLog.{IsLongLogFault}
use Rattle.census_command.specs.Told.{IsCutShort}
use Rattle.cobra_answers.specs.declared.stop.Stop.TheVariants as stop
use Rattle.cobra_calls.specs.declared.ending.Ending.{Ending}
use Rattle.cobra_calls.specs.declared.ending.Ending.TheVariants.{Stop}
use Rattle.cobra_calls.specs.Endings.{IsLogRefusal}

-- for the log's fault, and nothing was told; or where the sink failed
pub data IsCensusEnding (name log : List ℕ) (old new : Option (List ℕ)) (e : Ending) : Type 0 where
  by_log : (f : LogFault) → IsLongLogFault log f → IsLogRefusal name f e → new ≡ old
      → IsCensusEnding name log old new e
  by_device : (written : ℕ) → IsCutShort log written old new → e ≡ Stop stop.Output
      → IsCensusEnding name log old new e
