-- What a call of `audit` tells of a long log and writes beside that, and why it ends without an answer.
use Rattle.std.specs.Prelude.{◌≡◌, ◌≢◌, ◌⊎◌, ℕ, List, [], ◌∷◌, ◌++◌, codes, Option, None, Some, is_some, Vec}
use Rattle.std.specs.List.{AllByRecursion}
use Rattle.std.specs.Borrow.{Bor}
use Rattle.std.specs.declared.alloc.Global.{Global}
use Rattle.std.specs.declared.time.Instant.{Instant}
use Rattle.session_log.specs.declared.fault.LogFault.{LogFault}
use Rattle.session_log.specs.declared.fault.LogFault.TheVariants.{Memory}
use Rattle.long_log_definitions.specs.LongLog.{IsLongLogFault}
use Rattle.progress.specs.declared.deadline.Deadline.{Deadline}
use Rattle.audit_command.specs.Levels.{settled}
use Rattle.audit_command.specs.Audited.{IsAudited, IsRefusal}
use Rattle.audit_command.specs.declared.options.AuditOptions.{AuditOptions}
use Rattle.audit_command.specs.declared.outcome.Audited.{Audited}
use Rattle.audit_command.specs.declared.outcome.Refusal.{Refusal}
use Rattle.audit_command.specs.declared.outcome.Refusal.TheVariants as refusal
use Rattle.audit_report.specs.declared.files.PartFile.{PartFile}
use Rattle.cobra_calls.specs.Files.{File, Disk, Adds, FailsAt}
use Rattle.cobra_answers.specs.declared.status.Status.{Status}
use Rattle.cobra_answers.specs.declared.stop.Stop.TheVariants as stop
use Rattle.cobra_words.specs.declared.request.Request.{Request}
use Rattle.cobra_words.specs.declared.request.AuditWords.{AuditWords}
use Rattle.cobra_words.specs.declared.commands.TheConstants.{VERSION}
use Rattle.cobra_calls.specs.declared.ending.Ending.{Ending}
use Rattle.cobra_calls.specs.declared.ending.Ending.TheVariants.{Stop}
use Rattle.cobra_calls.specs.Calls.{log_name}
use Rattle.cobra_calls.specs.Endings.{out_of_memory, IsLogRefusal, IsUsage, IsUnusable}
pub use Rattle.cobra_calls.specs.Handed.{IsHandedOn, TellsFront}

-- ---- what is asked

-- until when something further is begun, in a call that began then
abbrev pub deadline_of : Option Instant → Option ℕ → Option Deadline
deadline_of (Some start) (Some seconds) = Some (record { start = start; seconds = seconds })
deadline_of (Some start) None = None
deadline_of None seconds = None

-- what these words ask for; an object names this version of the program
pub record AreOptions (r : Request) (w : AuditWords) (start : Option Instant) (o : AuditOptions)
    : Type 0 where
  pub workers : o.means.deciding.workers ≡ r.workers
  pub strategy : o.means.deciding.strategy ≡ r.strategy
  pub budget : o.means.deciding.budget ≡ r.budget
  pub deadline : o.means.deadline ≡ deadline_of start w.seconds
  pub at_least : o.at_least ≡ w.at_least
  pub faults : o.faults ≡ w.faults
  pub level : o.level ≡ w.level
  pub only : o.only ≡ w.only
  pub no_moments : o.no_moments ≡ w.no_moments
  pub explain : o.explain ≡ w.explain
  pub explanation : o.explanation ≡ w.explanation
  pub part : o.part ≡ is_some w.part
  pub order : o.order ≡ is_some w.order
  pub form : o.form ≡ w.format
  pub quiet : o.quiet ≡ w.quiet
  pub version : o.version.now ≡ VERSION.now

-- ---- names

-- the name of the map beside the part
abbrev pub map_path : Option (Bor (List ℕ)) → List ℕ
map_path None = []
map_path (Some part) = part.now ++ codes ".map"

abbrev pub part_names : Option (Bor (List ℕ)) → List (List ℕ)
part_names None = []
part_names (Some part) = part.now ∷ map_path (Some part) ∷ []

abbrev pub order_names : Option (Bor (List ℕ)) → List (List ℕ)
order_names None = []
order_names (Some order) = order.now ∷ []

-- the files that a call names: the log, the part and its map, and the order
abbrev pub files_named : Request → AuditWords → List (List ℕ)
files_named r w = log_name r ∷ part_names w.part ++ order_names w.order

-- no two of these names are the same
abbrev pub AreApart : List (List ℕ) → Type 0
AreApart [] = Unit {0}
AreApart (name ∷ names) = AllByRecursion (λ other. name ≢ other) names × AreApart names

-- the name stands among these, and twice
pub record StandsIn (names : List (List ℕ)) (name : List ℕ) : Type 0 where
  pub front : List (List ℕ)
  pub back : List (List ℕ)
  pub is : names ≡ front ++ name ∷ back

pub record StandsTwice (names : List (List ℕ)) (name : List ℕ) : Type 0 where
  pub front : List (List ℕ)
  pub rest : List (List ℕ)
  pub is : names ≡ front ++ name ∷ rest
  pub again : StandsIn rest name

abbrev pub twice_line : List ℕ → List ℕ
twice_line name =
    codes "error: the call names " ++ (name ++ codes " twice, and would write over it")

-- one of them stands twice, and the line says which
pub record IsNamedTwice (names : List (List ℕ)) (e : Ending) : Type 0 where
  pub name : List ℕ
  pub twice : StandsTwice names name
  pub told : IsUsage (twice_line name) e

-- ---- files

-- the part as a log, and its map; the order
abbrev pub part_files : Option (Bor (List ℕ)) → List ℕ → Option PartFile → List File
part_files None map part = []
part_files (Some path) map None = []
part_files (Some path) map (Some part) =
    (path.now, part.log.items) ∷ (map, part.map.items) ∷ []

abbrev pub order_files : Option (Bor (List ℕ)) → Option (Vec ℕ Global) → List File
order_files None order = []
order_files (Some path) None = []
order_files (Some path) (Some order) = (path.now, order.items) ∷ []

abbrev pub files_of : AuditWords → Audited → List File
files_of w a = part_files w.part (map_path w.part) a.part ++ order_files w.order a.order

-- Of these one could not be written, which the ending names: those before it were, of it no more than
-- its first bytes, and nothing of those behind it.
pub record IsUnwritten (files : List File) (old new : Disk) (e : Ending) : Type 0 where
  pub front : List File
  pub failed : File
  pub back : List File
  pub all : files ≡ front ++ failed ∷ back
  pub between : Disk
  pub written : Adds old between front
  pub cut : FailsAt between new failed
  pub told : IsUnusable failed.0 e

-- ---- answers

-- what these words ask for, whose files are apart
pub record Asks (r : Request) (w : AuditWords) (start : Option Instant) (o : AuditOptions)
    : Type 0 where
  pub options : AreOptions r w start o
  pub apart : AreApart (files_named r w)

-- what these words ask for of the log, as an audit of it finds
pub record Finds (r : Request) (w : AuditWords) (start : Option Instant) (log : List ℕ)
    (a : Audited) : Type 0 where
  pub options : AuditOptions
  pub asks : Asks r w start options
  pub audited : IsAudited (settled options) log a

-- it is told, and the files are written that are asked for
pub record IsAuditDone (r : Request) (w : AuditWords) (start : Option Instant) (log : List ℕ)
    (old new : Option (List ℕ)) (files later : Disk) (s : Status) : Type 0 where
  pub finding : Audited
  pub finds : Finds r w start log finding
  pub told : IsHandedOn old new finding.reply.text.items
  pub written : Adds files later (files_of w finding)
  pub ends : s ≡ finding.reply.status

-- what is said of a log with this fault
pub record SaysRefused (r : Request) (w : AuditWords) (start : Option Instant) (log : List ℕ)
    (f : LogFault) (text : List ℕ) : Type 0 where
  pub options : AuditOptions
  pub asks : Asks r w start options
  pub fault : IsLongLogFault log f
  pub other : f ≢ Memory
  pub says : IsRefusal options.form options f text

-- why a log of this name is refused was told, or cut short
abbrev pub IsRefusalTold : List ℕ → Refusal → Option (List ℕ) → Option (List ℕ) → Ending → Type 0
IsRefusalTold name refusal.Memory old new e = (e ≡ out_of_memory) × (new ≡ old)
IsRefusalTold name (refusal.Log f text) old new e =
    (IsHandedOn old new text.items × IsLogRefusal name f e)
    ⊎ (TellsFront old new text.items × (e ≡ Stop stop.Output))

-- Why there is no answer: memory was refused, or two files of the call have one name, and nothing was
-- told; or the log is refused, and what is said of that was told, or cut short; or the sink failed at
-- the report, or did not hand it on; or a file could not be written, and the report was told.
pub data IsAuditEnding (r : Request) (w : AuditWords) (start : Option Instant) (log : List ℕ)
    (old new : Option (List ℕ)) (files later : Disk) (e : Ending) : Type 0 where
  by_memory : e ≡ out_of_memory → new ≡ old → later ≡ files
      → IsAuditEnding r w start log old new files later e
  by_names : IsNamedTwice (files_named r w) e → new ≡ old → later ≡ files
      → IsAuditEnding r w start log old new files later e
  by_log : (f : LogFault) (text : List ℕ) → SaysRefused r w start log f text
      → IsHandedOn old new text → IsLogRefusal (log_name r) f e → later ≡ files
      → IsAuditEnding r w start log old new files later e
  cut_refusal : (f : LogFault) (text : List ℕ) → SaysRefused r w start log f text
      → TellsFront old new text → e ≡ Stop stop.Output → later ≡ files
      → IsAuditEnding r w start log old new files later e
  cut_report : (a : Audited) → Finds r w start log a → TellsFront old new a.reply.text.items
      → e ≡ Stop stop.Output → later ≡ files → IsAuditEnding r w start log old new files later e
  cut_files : (a : Audited) → Finds r w start log a → IsHandedOn old new a.reply.text.items
      → IsUnwritten (files_of w a) files later e → IsAuditEnding r w start log old new files later e
