-- What `solve` says of sessions, and why it is refused.
use Rattle.std.specs.Prelude.{◌≡◌, ℕ, Bool, List, ◌++◌, codes, decimal}
use Rattle.session_log.specs.Text.{ClientSession}
use Rattle.log_definitions.specs.Serial.{IsSerialOrder}
use Rattle.cobra_formulas.specs.Formulas.{IsFormulaFault}
use Rattle.cobra_answers.specs.Verdicts.{serial_text}
use Rattle.cobra_answers.specs.declared.status.Status.{Status}
use Rattle.cobra_answers.specs.declared.status.Status.TheVariants.{Done, NotSerializable, Unknown}
use Rattle.cobra_answers.specs.declared.fault.Fault.{Fault}
use Rattle.cobra_answers.specs.declared.fault.Fault.TheVariants as fault
use Rattle.solving.specs.declared.solution.Solution.{Solution}
use Rattle.solving.specs.declared.solution.Solution.TheVariants.{Serial, Refuted, Spent}
use Rattle.solving.specs.Solved.{Solves}

-- how the command ends
abbrev pub status_of : Solution → Status
status_of (Serial order) = Done
status_of Refuted = NotSerializable
status_of Spent = Unknown

abbrev pub refuted_formula_text : List ℕ
refuted_formula_text = codes "not serializable: the formula is refuted\n"

abbrev pub spent_text : ℕ → List ℕ
spent_text conflicts = codes "unknown: " ++ decimal conflicts ++ codes " conflicts\n"

-- how it is told, by the budget
abbrev pub solution_text : ℕ → List ClientSession → Solution → List ℕ
solution_text budget ss (Serial order) = serial_text ss order
solution_text budget ss Refuted = refuted_formula_text
solution_text budget ss Spent = spent_text budget

-- what is found of the sessions within the budget
pub record IsSolution (plain : Bool) (budget : ℕ) (ss : List ClientSession) (status : Status)
    (text : List ℕ) : Type 0 where
  pub solution : Solution
  pub solves : Solves plain ss solution
  pub ends : status ≡ status_of solution
  pub told : text ≡ solution_text budget ss solution

-- an order that is found is serial
abbrev pub IsSerialWhereTold : List ClientSession → Solution → Type 0
IsSerialWhereTold ss (Serial order) = IsSerialOrder ss order
IsSerialWhereTold ss _ = Unit {0}

-- the sessions have no formula for this reason
abbrev pub HasNoFormula : Bool → Fault → List ClientSession → Type 0
HasNoFormula plain (fault.Formula e) ss = IsFormulaFault plain ss e
HasNoFormula plain fault.Memory ss = Unit {0}
HasNoFormula plain _ ss = ⊥
