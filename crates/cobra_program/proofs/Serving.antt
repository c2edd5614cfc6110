-- What a request is served by: `audit`, or the command of its own.
use Rattle.std.proofs.Common.{◌≡◌, ℕ, Option, true, refl, sym, subst}
use Rattle.std.specs.declared.time.Instant.{Instant}
use Rattle.cobra_words.specs.declared.request.Request.{Request}
use Rattle.cobra_words.specs.declared.request.AuditWords.{AuditWords}
use Rattle.cobra_words.specs.declared.request.Command.{Command}
use Rattle.cobra_words.specs.declared.request.Command.TheVariants as command
use Rattle.cobra_calls.specs.Calls.{is_plain}
use Rattle.cobra_calls.specs.Worlds.{IsAnswered}
use Rattle.cobra_program.specs.Left.{Left}
use Rattle.cobra_program.specs.Audits.{IsAuditAnswered}
use Rattle.cobra_program.specs.Program.{IsServedBy}

pub by_audit : (asked : Command) (words : AuditWords) (start : Option Instant) (r : Request) (c : Left) (status : ℕ) → asked ≡ command.Audit words → IsAuditAnswered start r words c status → IsServedBy asked start r c status
by_audit asked words start r c status is h = subst (λ x. IsServedBy x start r c status) (sym is) h

pub by_other : (asked : Command) (start : Option Instant) (r : Request) (c : Left) (status : ℕ) → is_plain asked ≡ true → IsAnswered r c.seen status → c.later_files ≡ c.files → IsServedBy asked start r c status
by_other command.Encode start r c status plain h files = (h, files)
by_other (command.Decode model) start r c status plain h files = (h, files)
by_other (command.Refute proof) start r c status plain h files = (h, files)
by_other (command.Solve conflicts) start r c status plain h files = (h, files)
by_other command.Check start r c status plain h files = (h, files)
by_other (command.Verify order) start r c status plain h files = (h, files)
by_other command.Stats start r c status plain h files = (h, files)
by_other (command.Explain format) start r c status plain h files = (h, files)
by_other (command.Audit words) start r c status plain h files = cc
by_other command.Split start r c status plain h files = (h, files)
by_other command.Census start r c status plain h files = (h, files)

pub plain_but : (asked : Command) → ((words : AuditWords) → asked ≡ command.Audit words → ⊥) → is_plain asked ≡ true
plain_but command.Encode other = refl
plain_but (command.Decode model) other = refl
plain_but (command.Refute proof) other = refl
plain_but (command.Solve conflicts) other = refl
plain_but command.Check other = refl
plain_but (command.Verify order) other = refl
plain_but command.Stats other = refl
plain_but (command.Explain format) other = refl
plain_but (command.Audit words) other = absurd (other words refl)
plain_but command.Split other = refl
plain_but command.Census other = refl
