-- What stands, and what the checker may hold.
use Rattle.std.specs.Prelude.{◌≡◌, Bool, false, List, Option}
use Rattle.serializability.specs.Formula.{clause_true}
use Rattle.serializability.specs.declared.literal.Literal.{Literal}
use Rattle.refutation.specs.Follows.{SatisfiesAll}
use Rattle.refutation.specs.Known.{Agrees}

-- the clauses by their numbers; the clause of the step; what is known of the variables
pub record Standing : Type 0 where
  pub clauses : List (Option (List Literal))
  pub step : List Literal
  pub known : List (Option Bool)

abbrev pub standing : List (Option (List Literal)) → List Literal → List (Option Bool) → Standing
standing clauses step known = record { clauses = clauses; step = step; known = known }

-- what is known holds wherever all clauses are true and the step's clause is false
pub record IsSound (clauses : List (Option (List Literal))) (step : List Literal)
    (known : List (Option Bool)) : Type 0 where
  pub assumed : (values : List Bool) → SatisfiesAll values clauses → clause_true values step ≡ false
      → Agrees known values
