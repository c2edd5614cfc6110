-- What a step of an LRAT proof did, as the code goes on from step to step.
use Rattle.std.specs.Prelude.{◌≡◌, ℕ, ◌<◌, Bool, true, false, not, List, length, Option, None, Some}
use Rattle.std.specs.List.Sorted.{IsStrictlyIncreasing}
use Rattle.serializability.specs.declared.literal.Literal.{Literal}
use Rattle.refutation.specs.Standing.{Standing}
use Rattle.proof_text.specs.Steps.{LratStep}
use Rattle.proof_text.specs.declared.lrat.LratAction.{LratAction}
use Rattle.proof_text.specs.declared.lrat.LratAction.TheVariants.{Add}
use Rattle.proof_checks.specs.Distinct.{distinct}
use Rattle.proof_checks.specs.Ends.{is_nil, end_fault}
use Rattle.proof_checks.specs.Lrat.{Proof, numbers_at, addition_fault, after_action, step_fault, after_step, adds_empty, lrat_fault}
use Rattle.proof_checks.specs.Marks.{HasRounds}
use Rattle.proof_checks.specs.declared.lrat.Lrat.{Lrat}

-- the clauses of a checker, with the IDs of the added ones
abbrev pub proof_of : Standing → List ℕ → Proof
proof_of s added = record { clauses = s.clauses; added = added }

-- the same by what is kept
abbrev pub held : Standing → Lrat → Proof
held s lrat = proof_of s lrat.added.items

-- the step that was read
abbrev pub step_read : Lrat → LratAction → LratStep
step_read lrat action = record {
  action = action;
  literals = lrat.literals.items;
  ids
      = lrat.ids.items;
}

-- the IDs of added clauses ascend, and the marks can be taken away
pub record IsKept (lrat : Lrat) : Type 0 where
  pub ascends : IsStrictlyIncreasing lrat.added.items
  pub rounds : HasRounds lrat.marks

-- all of the IDs stand, at these numbers; or not all do
abbrev pub AreNumbers : Proof → List (Option ℕ) → List ℕ → Bool → Type 0
AreNumbers p ids numbers true = numbers_at p ids ≡ Some numbers
AreNumbers p ids numbers false = numbers_at p ids ≡ None

-- a clause has no fault and stands under its ID, and whether the proof goes on
pub record IsAdded (n line : ℕ) (old new : Proof) (id : ℕ) (literals : List Literal)
    (numbers : List ℕ) (on : Bool) : Type 0 where
  pub faultless : addition_fault n line old id (distinct literals) numbers ≡ None
  pub stands : new ≡ after_action old (Add id) (distinct literals) numbers
  pub goes_on : on ≡ not (is_nil literals)

-- a step has no fault, what stands behind it stands, and whether the proof goes on
pub record IsTaken (n line : ℕ) (old new : Proof) (s : LratStep) (on : Bool) : Type 0 where
  pub faultless : step_fault n line old s ≡ None
  pub stands : new ≡ after_step old s
  pub goes_on : on ≡ not (adds_empty s)

-- what is left has the fault that all had; or this is the end
abbrev pub GoesOn : ℕ → List (ℕ × Option LratStep) → List (ℕ × Option LratStep) → Proof → Proof
    → Bool → Type 0
GoesOn n all left old new true = (lrat_fault n all old ≡ lrat_fault n left new)
    × (length left < length all)
GoesOn n all left old new false = lrat_fault n all old ≡ end_fault new.clauses
