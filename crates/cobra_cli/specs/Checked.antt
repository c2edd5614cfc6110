-- What `check` says.
use Rattle.std.specs.Prelude.{◌≡◌, ℕ, List}
use Rattle.session_log.specs.Text.{ClientSession}
use Rattle.order_cnf.specs.declared.fault.CnfFault.{CnfFault}
use Rattle.order_cnf.specs.declared.fault.CnfFault.TheVariants as cnf
use Rattle.polygraph.specs.declared.fault.PolyFault.TheVariants as poly
use Rattle.reduction.specs.Outcome.{IsReduceFault}
use Rattle.deciding.specs.Decides.{Decides}
use Rattle.deciding.specs.declared.decision.Decision.{Decision}
use Rattle.deciding.specs.declared.decision.Decision.TheVariants.{Serial, Anomalous, Cyclic, Dead, Refuted, Spent}
use Rattle.cobra_answers.specs.Verdicts.{anomaly_text, cycle_text, dead_text, serial_text, refuted_text, spent_text}
use Rattle.cobra_answers.specs.declared.status.Status.{Status}
use Rattle.cobra_answers.specs.declared.status.Status.TheVariants.{Done, NotSerializable, Unknown}
use Rattle.cobra_answers.specs.declared.fault.Fault.{Fault}
use Rattle.cobra_answers.specs.declared.fault.Fault.TheVariants as fault

-- how a command ends that tells a decision
abbrev pub status_of : Decision → Status
status_of (Serial order) = Done
status_of (Anomalous a) = NotSerializable
status_of (Cyclic line) = NotSerializable
status_of (Dead ledger) = NotSerializable
status_of (Refuted left tree) = NotSerializable
status_of (Spent closed) = Unknown

-- how `check` tells a decision
abbrev pub verdict_text : List ClientSession → Decision → List ℕ
verdict_text ss (Serial order) = serial_text ss order
verdict_text ss (Anomalous a) = anomaly_text ss a
verdict_text ss (Cyclic line) = cycle_text ss line.items
verdict_text ss (Dead ledger) = dead_text
verdict_text ss (Refuted left tree) = refuted_text
verdict_text ss (Spent closed) = spent_text closed

-- what is decided of the sessions within the budget
pub record IsVerdict (budget : ℕ) (ss : List ClientSession) (status : Status)
    (text : List ℕ) : Type 0 where
  pub decision : Decision
  pub decides : Decides budget ss decision
  pub ends : status ≡ status_of decision
  pub told : text ≡ verdict_text ss decision

-- of the limits only that of choices is told
abbrev pub IsLimitExceeded : List ClientSession → CnfFault → Type 0
IsLimitExceeded ss cnf.TooManyChoices = IsReduceFault ss poly.TooManyChoices
IsLimitExceeded ss cnf.TooManyForPlain = ⊥
IsLimitExceeded ss cnf.FormulaTooLarge = ⊥
IsLimitExceeded ss cnf.Memory = ⊥

-- why there is no answer
abbrev pub IsUndecided : Fault → List ClientSession → Type 0
IsUndecided (fault.Formula e) ss = IsLimitExceeded ss e
IsUndecided fault.Memory ss = Unit {0}
IsUndecided _ ss = ⊥
