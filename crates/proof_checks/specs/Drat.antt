-- The first fault of a DRAT proof. A deletion asks for nothing: a clause is to follow from those of
-- the formula and all that were added before it.
use Rattle.std.specs.Prelude.{ℕ, Bool, true, false, not, ◌||◌, IsTrue, IsFalse, List, [], ◌∷◌, ◌++◌, Option, None, Some}
use Rattle.serializability.specs.declared.literal.Literal.{Literal}
use Rattle.proof_text.specs.Steps.{DratStep}
use Rattle.proof_text.specs.declared.fault.ProofFault.{ProofFault}
use Rattle.proof_text.specs.declared.fault.ProofFault.TheVariants.{BadLine, NotImplied, Memory}
use Rattle.proof_text.specs.declared.drat.DratAction.{DratAction}
use Rattle.proof_text.specs.declared.drat.DratAction.TheVariants.{Add, Delete}
use Rattle.proof_checks.specs.Distinct.{distinct, is_tautology}
use Rattle.proof_checks.specs.Ends.{is_nil, end_fault}
use Rattle.proof_checks.specs.Propagation.{IsImplied}

abbrev pub adds : DratAction → Bool
adds Add = true
adds Delete = false

-- a step deletes a clause, or adds one that every assignment satisfies
abbrev pub is_idle : DratStep → Bool
is_idle s = not (adds s.action) || is_tautology s.literals

-- the first fault of these steps, each with its line, where these clauses stand; none where the
-- empty clause is derived
pub data IsDratFault : List (ℕ × Option DratStep) → List (Option (List Literal))
    → Option ProofFault → Type 0 where
  ended : (clauses : List (Option (List Literal))) → IsDratFault [] clauses (end_fault clauses)
  bad_line : (line : ℕ) (left : List (ℕ × Option DratStep)) (clauses : List (Option (List Literal)))
      → IsDratFault ((line, None) ∷ left) clauses (Some (BadLine line))
  idle : (line : ℕ) (s : DratStep) (left : List (ℕ × Option DratStep))
      (clauses : List (Option (List Literal))) (fault : Option ProofFault)
      → IsTrue (is_idle s) → IsDratFault left clauses fault
      → IsDratFault ((line, Some s) ∷ left) clauses fault
  not_implied : (line : ℕ) (s : DratStep) (left : List (ℕ × Option DratStep))
      (clauses : List (Option (List Literal))) → IsFalse (is_idle s)
      → (IsImplied clauses (distinct s.literals) → ⊥)
      → IsDratFault ((line, Some s) ∷ left) clauses (Some (NotImplied line))
  added : (line : ℕ) (s : DratStep) (left : List (ℕ × Option DratStep))
      (clauses : List (Option (List Literal))) (fault : Option ProofFault) → IsFalse (is_idle s)
      → IsImplied clauses (distinct s.literals) → IsFalse (is_nil s.literals)
      → IsDratFault left (clauses ++ Some (distinct s.literals) ∷ []) fault
      → IsDratFault ((line, Some s) ∷ left) clauses fault
  refuted : (line : ℕ) (s : DratStep) (left : List (ℕ × Option DratStep))
      (clauses : List (Option (List Literal))) → IsFalse (is_idle s)
      → IsImplied clauses (distinct s.literals) → IsTrue (is_nil s.literals)
      → IsDratFault ((line, Some s) ∷ left) clauses None

-- the same fault, where memory may run out
abbrev pub IsDratStop : List (ℕ × Option DratStep) → List (Option (List Literal)) → ProofFault
    → Type 0
IsDratStop steps clauses Memory = Unit {0}
IsDratStop steps clauses f = IsDratFault steps clauses (Some f)
