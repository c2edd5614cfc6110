-- What a call of `audit` leaves in the world.
use Rattle.std.specs.Prelude.{◌≡◌, ℕ, Bool, true, List, Option, None, Some, string_bytes}
use Rattle.std.specs.declared.time.Instant.{Instant}
use Rattle.output.specs.Sinks.{one_more}
use Rattle.call_options.specs.declared.report_form.ReportForm.{ReportForm}
use Rattle.call_options.specs.declared.report_form.ReportForm.TheVariants as report
use Rattle.audit_report.specs.Objects.{failure_object}
use Rattle.cobra_answers.specs.Failures.{code_of}
use Rattle.cobra_answers.specs.declared.status.Status.{Status}
use Rattle.cobra_words.specs.declared.request.Request.{Request}
use Rattle.cobra_words.specs.declared.request.AuditWords.{AuditWords}
use Rattle.cobra_words.specs.declared.commands.TheConstants.{VERSION}
use Rattle.cobra_calls.specs.declared.ending.Ending.{Ending}
use Rattle.cobra_calls.specs.declared.ending.Ending.TheVariants.{Told}
use Rattle.cobra_calls.specs.Endings.{failures_by}
use Rattle.cobra_calls.specs.Handed.{IsHandedOn, TellsFront}
use Rattle.cobra_calls.specs.Worlds.{IsLogRead, IsLogUnread}
use Rattle.cobra_calls.specs.Audits.{IsAuditDone, IsAuditEnding}
use Rattle.cobra_program.specs.Left.{Left, NoReadFailed, EndsFor}

-- the line of an ending that an object says, where one is asked for
abbrev pub failure_line : ReportForm → Ending → Option (List ℕ)
failure_line report.Json (Told line status) = Some (string_bytes line)
failure_line form e = None

-- a text was told and handed on; or the output failed at it; or there was no memory for it
pub data IsSaid (text : List ℕ) (old new : Option (List ℕ)) (failures later : ℕ) : Type 0 where
  whole : IsHandedOn old new text → later ≡ failures → IsSaid text old new failures later
  cut : TellsFront old new text → later ≡ one_more failures → IsSaid text old new failures later
  unsaid : new ≡ old → later ≡ failures → IsSaid text old new failures later

-- an object says that the log could not be read, with this line; nothing does, where there is none
abbrev pub IsFailureSaid : Bool → Option (List ℕ) → Option (List ℕ) → Option (List ℕ) → ℕ → ℕ
    → Type 0
IsFailureSaid quiet None old new failures later = (new ≡ old) × (later ≡ failures)
IsFailureSaid quiet (Some line) old new failures later =
    IsSaid (failure_object quiet line VERSION.now) old new failures later

-- The call of a request of `audit` that began then: the log was read, and what was found of it is
-- told, with nothing on standard error; or it was read, and a line there says why there is no
-- answer; or it could not be read, which that line says, and an object, where one is asked for.
pub data IsAuditAnswered (start : Option Instant) (r : Request) (w : AuditWords) (c : Left)
    (status : ℕ) : Type 0 where
  by_answer : (log : List ℕ) (s : Status) → IsLogRead r c.seen.given c.seen.held log
      → NoReadFailed c.seen
      → IsAuditDone r w start log c.seen.old c.seen.new c.files c.later_files s
      → c.seen.is_through ≡ true → c.seen.later_failures ≡ c.seen.failures
      → c.seen.later ≡ c.seen.lines → status ≡ code_of s → IsAuditAnswered start r w c status
  by_ending : (log : List ℕ) (e : Ending) → IsLogRead r c.seen.given c.seen.held log
      → NoReadFailed c.seen
      → IsAuditEnding r w start log c.seen.old c.seen.new c.files c.later_files e
      → c.seen.later_failures ≡ failures_by c.seen.failures e → EndsFor e c.seen status
      → IsAuditAnswered start r w c status
  unread : (e : Ending) → IsLogUnread r c.seen.before c.seen.after e
      → IsFailureSaid w.quiet (failure_line w.format e) c.seen.old c.seen.new c.seen.failures
      c.seen.later_failures
      → c.later_files ≡ c.files → EndsFor e c.seen status → IsAuditAnswered start r w c status
