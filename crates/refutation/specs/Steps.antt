-- What a step did.
use Rattle.std.specs.Prelude.{◌≡◌, Bool, true, false, List, [], ◌∷◌, ◌++◌, Some}
use Rattle.serializability.specs.declared.literal.Literal.{Literal}
use Rattle.refutation.specs.Follows.{Follows}
use Rattle.refutation.specs.Standing.{Standing}

-- the clause follows from those that stood, and stands too
pub record Takes (old new : Standing) (step : List Literal) : Type 0 where
  pub follows : Follows old.clauses step
  pub stands : new.clauses ≡ old.clauses ++ Some step ∷ []

abbrev pub Steps : Standing → Standing → List Literal → Bool → Type 0
Steps old new step true = Takes old new step
Steps old new step false = new.clauses ≡ old.clauses
