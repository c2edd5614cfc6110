-- The clauses that the checker has for those that stand.
use Rattle.std.specs.Prelude.{◌≡◌, ◌⊎◌, List, [], ◌∷◌, Option, Some}
use Rattle.std.specs.List.{Contains}
use Rattle.serializability.specs.declared.literal.Literal.{Literal}
use Rattle.proof_checks.specs.Distinct.{negated}
use Rattle.proof_checks.specs.Propagation.{IsMadeFalse}

-- unit propagation makes the literal of a unit clause true, whatever is assumed
pub record IsRoot (clauses : List (Option (List Literal))) (d : List Literal) : Type 0 where
  pub literal : Literal
  pub unit : d ≡ literal ∷ []
  pub made_true : IsMadeFalse clauses [] (negated literal)

-- all of them, and no others but roots
pub record Holds (clauses held : List (Option (List Literal))) : Type 0 where
  pub all : (d : List Literal) → Contains clauses (Some d) → Contains held (Some d)
  pub only : (d : List Literal) → Contains held (Some d)
      → Contains clauses (Some d) ⊎ IsRoot clauses d
