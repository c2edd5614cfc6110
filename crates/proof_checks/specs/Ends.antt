-- The end of a proof, and its faults.
use Rattle.std.specs.Prelude.{◌≡◌, Bool, true, false, if◌then◌else◌, List, [], ◌∷◌, Option, None, Some}
use Rattle.std.specs.List.{list_any}
use Rattle.serializability.specs.declared.literal.Literal.{Literal}
use Rattle.proof_text.specs.declared.fault.ProofFault.{ProofFault}
use Rattle.proof_text.specs.declared.fault.ProofFault.TheVariants.{NoEmptyClause, Memory}

abbrev pub is_nil : {X : Type 0} → List X → Bool
is_nil [] = true
is_nil (x ∷ xs) = false

-- the empty clause, which stands
abbrev pub is_empty_clause : Option (List Literal) → Bool
is_empty_clause None = false
is_empty_clause (Some c) = is_nil c

-- a proof that ends where no empty clause stands shows nothing
abbrev pub end_fault : List (Option (List Literal)) → Option ProofFault
end_fault clauses = if list_any is_empty_clause clauses then None else Some NoEmptyClause

-- the fault that a proof has; memory may run out at any proof
abbrev pub IsFault : ProofFault → Option ProofFault → Type 0
IsFault Memory whole = Unit {0}
IsFault f whole = whole ≡ Some f
