-- Why a call of `explain` ends without an answer. In the form of text, why a log is refused is said
-- in words on the output, before the line on standard error.
use Rattle.std.specs.Prelude.{◌≡◌, ◌⊎◌, ℕ, List, [], ◌∷◌, ◌++◌, string_bytes, Option, None, Some, String, if◌then◌else◌}
use Rattle.std.specs.declared.alloc.Global.{Global}
use Rattle.std.specs.Io.KnownBytes.{Keeps}
use Rattle.session_log.specs.Version.{version_of}
use Rattle.session_log.specs.declared.fault.LogFault.{LogFault}
use Rattle.session_log.specs.declared.limits.TheConstants.{MAX_LOG_BYTES}
use Rattle.log_definitions.specs.WellFormed.{IsLogFault}
use Rattle.fault_words.specs.Codes.{IsRefusalLine}
use Rattle.call_options.specs.declared.format.Format.{Format}
use Rattle.call_options.specs.declared.format.Format.TheVariants as form
use Rattle.cobra_answers.specs.Answers.{IsRefused}
use Rattle.cobra_answers.specs.Refusals.{is_memory}
use Rattle.cobra_answers.specs.declared.fault.Fault.{Fault}
use Rattle.cobra_answers.specs.declared.fault.Fault.TheVariants as fault
use Rattle.cobra_answers.specs.declared.stop.Stop.TheVariants as stop
use Rattle.cobra_cli.specs.Checked.{IsUndecided}
use Rattle.cobra_cli.specs.Explained.{IsExplanation}
use Rattle.cobra_calls.specs.declared.ending.Ending.{Ending}
use Rattle.cobra_calls.specs.declared.ending.Ending.TheVariants.{Stop}
use Rattle.cobra_calls.specs.Endings.{out_of_memory}
use Rattle.cobra_calls.specs.Handed.{IsHandedOn, TellsFront}

-- the line that says why a log of this name is refused, with its line feed
abbrev pub IsRefusalText : List ℕ → LogFault → String Global → Type 0
IsRefusalText name f text = (line : List ℕ) × IsRefusalLine MAX_LOG_BYTES name f line
    × (string_bytes text ≡ line ++ 10 ∷ [])

-- a line says why a log of this name is refused, and a line feed ends it
pub record IsSaid (name : List ℕ) (f : LogFault) (old new : Option (List ℕ)) : Type 0 where
  pub line : List ℕ
  pub says : IsRefusalLine MAX_LOG_BYTES name f line
  pub told : IsHandedOn old new (line ++ 10 ∷ [])

-- the output failed at that
pub record IsSaidInPart (name : List ℕ) (f : LogFault) (old new : Option (List ℕ)) : Type 0 where
  pub line : List ℕ
  pub says : IsRefusalLine MAX_LOG_BYTES name f line
  pub cut : TellsFront old new (line ++ 10 ∷ [])

-- why it is not said
abbrev pub IsUnsaid : List ℕ → LogFault → Option (List ℕ) → Option (List ℕ) → Ending → Type 0
IsUnsaid name f old new e = ((e ≡ out_of_memory) × Keeps old new)
    ⊎ ((e ≡ Stop stop.Output) × IsSaidInPart name f old new)

-- the log's fault that is said in words: in the form of text each but want of memory, else none
abbrev pub said_fault : Format → Fault → Option LogFault
said_fault form.Dot f = None
said_fault form.Text (fault.Log f) = if is_memory f then None else Some f
said_fault form.Text _ = None

pub data IsExplainEnding (name log : List ℕ) (budget : ℕ) (format : Format)
    (old new : Option (List ℕ)) (e : Ending) : Type 0 where
  by_command : (f : Fault) → said_fault format f ≡ None
      → IsRefused (IsExplanation budget (version_of log) format) IsUndecided log old new f
      → e ≡ Stop (stop.Refused f) → IsExplainEnding name log budget format old new e
  by_log : (f : LogFault) → said_fault format (fault.Log f) ≡ Some f
      → IsLogFault log f → IsSaid name f old new
      → e ≡ Stop (stop.Refused (fault.Log f)) → IsExplainEnding name log budget format old new e
  unsaid : (f : LogFault) → said_fault format (fault.Log f) ≡ Some f
      → IsLogFault log f → IsUnsaid name f old new e
      → IsExplainEnding name log budget format old new e
