-- What reading a step says.
use Rattle.std.specs.Prelude.{◌≡◌, ℕ, List, [], ◌∷◌, Option, Some, None, Result, Ok, Err}
use Rattle.proof_text.specs.declared.fault.StepFault.{StepFault}
use Rattle.proof_text.specs.declared.fault.StepFault.TheVariants.{BadLine, NotImplied, Memory}

-- of the steps that were left: the end; the line and the action of the first, and the others are
-- left; the line of the first, which has no form; or memory ran out
abbrev pub IsRead : {A S : Type 0} → List (ℕ × Option S) → List (ℕ × Option S) → (A → S)
    → Result (Option (ℕ × A)) StepFault → Type 0
IsRead old new step (Ok None) = old ≡ []
IsRead old new step (Ok (Some found)) = old ≡ (found.0, Some (step found.1)) ∷ new
IsRead {A} {S} old new step (Err (BadLine line)) = (rest : List (ℕ × Option S))
    × (old ≡ (line, None) ∷ rest)
IsRead old new step (Err (NotImplied line)) = ⊥
IsRead old new step (Err Memory) = Unit {0}
