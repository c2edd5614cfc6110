-- What `refute` says of sessions, and why it is refused.
use Rattle.std.specs.Prelude.{◌≡◌, ℕ, ◌+◌, Bool, List, Option, Some, Result, Ok, Err, map, codes}
use Rattle.std.specs.Io.KnownBytes.{Keeps}
use Rattle.session_log.specs.Text.{ClientSession}
use Rattle.serializability.specs.Formula.{Cnf}
use Rattle.log_definitions.specs.Serial.{IsSomeOrder}
use Rattle.log_definitions.specs.WellFormed.{IsWellFormed}
use Rattle.formula_search.specs.Searched.{IsUnsatisfiable}
use Rattle.proof_checks.specs.Checked.{Given, IsAccepted, IsProofFault}
use Rattle.proof_text.specs.declared.fault.ProofFault.{ProofFault}
use Rattle.cobra_formulas.specs.Formulas.{IsFormulaOf, IsFormulaFault}
use Rattle.cobra_answers.specs.declared.status.Status.{Status}
use Rattle.cobra_answers.specs.declared.status.Status.TheVariants.{NotSerializable}
use Rattle.cobra_answers.specs.Answers.{IsRefused}
use Rattle.cobra_answers.specs.Failures.{failures_after}
use Rattle.cobra_answers.specs.declared.fault.Fault.{Fault}
use Rattle.cobra_answers.specs.declared.fault.Fault.TheVariants as fault
use Rattle.refute_command.specs.declared.refusal.Refusal.{Refusal}
use Rattle.refute_command.specs.declared.refusal.Refusal.TheVariants.{Command, Proof}

-- what a proof of a formula is checked against: its clauses, over its variables, which count from 1
abbrev pub given_by : Cnf → Given
given_by f = record {
  clauses = map Some f.clauses;
  variables = f.variables;
  known = f.variables +
      1;
}

-- an accepted proof was given of it
pub record IsShownBy (proof : List ℕ) (f : Cnf) : Type 0 where
  pub accepted : IsAccepted (given_by f) proof
  pub unsatisfiable : IsUnsatisfiable f

abbrev pub refuted_formula_text : List ℕ
refuted_formula_text = codes "not serializable: the formula is refuted\n"

-- The formula that belongs to the sessions cannot be satisfied, and so no list of the committed
-- transactions and of some of the unknown ones is an order that explains them.
pub record IsRefutation (plain : Bool) (proof : List ℕ) (ss : List ClientSession) (status : Status)
    (text : List ℕ) : Type 0 where
  pub formula : Cnf
  pub belongs : IsFormulaOf plain ss formula
  pub shown : IsShownBy proof formula
  pub none : (order : List ℕ) → IsSomeOrder ss order → ⊥
  pub ends : status ≡ NotSerializable
  pub told : text ≡ refuted_formula_text

-- the sessions have a formula, and the proof this fault
pub record IsProofRefused (plain : Bool) (proof : List ℕ) (ss : List ClientSession)
    (e : ProofFault) : Type 0 where
  pub formula : Cnf
  pub belongs : IsFormulaOf plain ss formula
  pub refused : IsProofFault (given_by formula) proof e

-- the sessions have no formula for this reason
abbrev pub HasNoFormula : Bool → Fault → List ClientSession → Type 0
HasNoFormula plain (fault.Formula e) ss = IsFormulaFault plain ss e
HasNoFormula plain fault.Memory ss = Unit {0}
HasNoFormula plain _ ss = ⊥

-- why nothing is said of sessions
abbrev pub IsNotRefuted : Bool → List ℕ → Refusal → List ClientSession → Type 0
IsNotRefuted plain proof (Command f) ss = HasNoFormula plain f ss
IsNotRefuted plain proof (Proof e) ss = IsProofRefused plain proof ss e

-- the log is well-formed and has a formula, the proof is refused, and nothing was written
pub record IsRefusedForProof (plain : Bool) (proof log : List ℕ) (old new : Option (List ℕ))
    (e : ProofFault) : Type 0 where
  pub sessions : List ClientSession
  pub well_formed : IsWellFormed log sessions
  pub refused : IsProofRefused plain proof sessions e
  pub keeps : Keeps old new

-- why the command is refused: as others are, or for the proof
abbrev pub IsRefuteRefused : Bool → List ℕ → List ℕ → Option (List ℕ) → Option (List ℕ) → Refusal
    → Type 0
IsRefuteRefused plain proof log old new (Command f) = IsRefused (IsRefutation plain proof)
    (HasNoFormula plain) log old new f
IsRefuteRefused plain proof log old new (Proof e) = IsRefusedForProof plain proof log old new e

-- the sink failed in this call exactly where it is refused for that
abbrev pub failures_of : ℕ → Result Status Refusal → ℕ
failures_of before (Ok s) = before
failures_of before (Err (Command f)) = failures_after before (Err f)
failures_of before (Err (Proof e)) = before
