-- What a step of a DRAT proof did, as the code goes on from step to step.
use Rattle.std.specs.Prelude.{◌≡◌, ℕ, ◌<◌, Bool, true, false, List, [], ◌∷◌, ◌++◌, length, Option, Some}
use Rattle.serializability.specs.declared.literal.Literal.{Literal}
use Rattle.proof_text.specs.Steps.{DratStep}
use Rattle.proof_text.specs.declared.drat.DratAction.TheVariants.{Add}
use Rattle.proof_text.specs.declared.fault.ProofFault.{ProofFault}
use Rattle.proof_checks.specs.Distinct.{distinct}
use Rattle.proof_checks.specs.Drat.{IsDratFault, IsDratStop}
use Rattle.proof_checks.specs.Ends.{end_fault}
use Rattle.proof_checks.specs.Held.{Holds}
use Rattle.proof_checks.specs.Propagation.{IsImplied}

-- a clause is implied and stands now, or nothing was found
abbrev pub IsFound : List (Option (List Literal)) → List (Option (List Literal)) → List Literal
    → Bool → Type 0
IsFound clauses held c true = IsImplied clauses c × Holds (clauses ++ Some c ∷ []) held
IsFound clauses held c false = Holds clauses held

-- a clause is implied and stands now, or it is not
abbrev pub IsTaken : List (Option (List Literal)) → List (Option (List Literal)) → List Literal
    → Bool → Type 0
IsTaken clauses held c true = IsImplied clauses c × Holds (clauses ++ Some c ∷ []) held
IsTaken clauses held c false = IsImplied clauses c → ⊥

-- a step adds the clause of these literals
pub record IsAddition (s : DratStep) (c : List Literal) : Type 0 where
  pub adds : s.action ≡ Add
  pub literals : c ≡ distinct s.literals

-- what is left behind a step has the fault that all had
pub record GoesOn (all left : List (ℕ × Option DratStep))
    (old held : List (Option (List Literal))) : Type 0 where
  pub new : List (Option (List Literal))
  pub holds : Holds new held
  pub same : (fault : Option ProofFault) → IsDratFault left new fault → IsDratFault all old fault

-- a step is passed, whatever is behind it, or it derives the empty clause
abbrev pub IsPassed : ℕ → DratStep → List (Option (List Literal)) → List (Option (List Literal))
    → Bool → Type 0
IsPassed line s old held true = (left : List (ℕ × Option DratStep))
    → GoesOn ((line, Some s) ∷ left) left old held
IsPassed line s old held false = (left : List (ℕ × Option DratStep))
    → IsDratFault ((line, Some s) ∷ left) old (end_fault held)

-- a step is not passed, whatever is behind it
abbrev pub IsStepStop : ℕ → DratStep → List (Option (List Literal)) → ProofFault → Type 0
IsStepStop line s old f = (left : List (ℕ × Option DratStep))
    → IsDratStop ((line, Some s) ∷ left) old f

-- the next step is passed; or the proof ends
abbrev pub IsNext : List (ℕ × Option DratStep) → List (ℕ × Option DratStep)
    → List (Option (List Literal)) → List (Option (List Literal)) → Bool → Type 0
IsNext all left old held true = GoesOn all left old held × (length left < length all)
IsNext all left old held false = IsDratFault all old (end_fault held)
