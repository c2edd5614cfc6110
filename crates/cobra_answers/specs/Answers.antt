-- What a command makes of a log: it says something of the log's sessions, or it is refused.
use Rattle.std.specs.Prelude.{ℕ, ◌<◌, List, length, take, Option}
use Rattle.std.specs.Io.KnownBytes.{Appends, Keeps}
use Rattle.session_log.specs.Text.{ClientSession}
use Rattle.session_log.specs.declared.fault.LogFault.{LogFault}
use Rattle.log_definitions.specs.WellFormed.{IsWellFormed, IsLogFault}
use Rattle.cobra_answers.specs.declared.status.Status.{Status}
use Rattle.cobra_answers.specs.declared.fault.Fault.{Fault}
use Rattle.cobra_answers.specs.declared.fault.Fault.TheVariants as fault

-- `Says ss status text`: of these sessions a command may end so, with this text

-- the log is well-formed, and a text that the command says of its sessions was put into the sink
pub record IsTold (Says : List ClientSession → Status → List ℕ → Type 0) (log : List ℕ)
    (old new : Option (List ℕ)) (status : Status) : Type 0 where
  pub sessions : List ClientSession
  pub well_formed : IsWellFormed log sessions
  pub text : List ℕ
  pub says : Says sessions status text
  pub told : Appends old new text

-- the sink failed behind so many bytes of the text, and took these
pub record IsCutShort (old new : Option (List ℕ)) (text : List ℕ) (written : ℕ) : Type 0 where
  pub within : written < length text
  pub front : Appends old new (take written text)

-- the fault says so
abbrev pub IsCutAt : Option (List ℕ) → Option (List ℕ) → List ℕ → Fault → Type 0
IsCutAt old new text (fault.Device written) = IsCutShort old new text written
IsCutAt old new text _ = ⊥

-- the sink failed at such a text
pub record IsToldInPart (Says : List ClientSession → Status → List ℕ → Type 0) (log : List ℕ)
    (old new : Option (List ℕ)) (written : ℕ) : Type 0 where
  pub sessions : List ClientSession
  pub well_formed : IsWellFormed log sessions
  pub status : Status
  pub text : List ℕ
  pub says : Says sessions status text
  pub cut : IsCutShort old new text written

-- Why a command is refused: for the log's fault; for one that the command has of the sessions of a
-- well-formed log; and in both cases nothing was written; or because the sink failed at what the
-- command says.
pub data IsRefused (Says : List ClientSession → Status → List ℕ → Type 0)
    (Refuses : Fault → List ClientSession → Type 0) (log : List ℕ)
    (old new : Option (List ℕ)) : Fault → Type 0 where
  by_log : (f : LogFault) → IsLogFault log f → Keeps old new
      → IsRefused Says Refuses log old new (fault.Log f)
  by_command : (f : Fault) (ss : List ClientSession) → IsWellFormed log ss → Refuses f ss
      → Keeps old new → IsRefused Says Refuses log old new f
  by_device : (written : ℕ) → IsToldInPart Says log old new written
      → IsRefused Says Refuses log old new (fault.Device written)
