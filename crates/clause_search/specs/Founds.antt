-- What is found of clauses.
use Rattle.std.specs.Prelude.{◌≡◌, ℕ, ◌<◌, Bool, true, List, Option, None, Some, length}
use Rattle.serializability.specs.Formula.{clause_true}
use Rattle.serializability.specs.declared.literal.Literal.{Literal}
use Rattle.refutation.specs.Follows.{SatisfiesAll, IsRefuted}
use Rattle.refutation.specs.Numbered.{clause_at}
use Rattle.clause_search.specs.declared.found.Found.{Found}
use Rattle.clause_search.specs.declared.found.Found.TheVariants.{Refuted, Satisfied, Spent}

-- an assignment has a value for each of so many variables, and satisfies all of the clauses
pub record IsModel (variables : ℕ) (clauses : List (Option (List Literal)))
    (values : List Bool) : Type 0 where
  pub each_variable : length values ≡ variables
  pub each_clause : SatisfiesAll values clauses

-- no assignment satisfies the clauses, or this one does; a spent budget says nothing of them
abbrev pub IsFound : ℕ → List (Option (List Literal)) → Found → Type 0
IsFound variables clauses Refuted = IsRefuted clauses
IsFound variables clauses (Satisfied values) = IsModel variables clauses values.items
IsFound variables clauses Spent = Unit {0}

-- the same where anything is found
abbrev pub MayBeFound : ℕ → List (Option (List Literal)) → Option Found → Type 0
MayBeFound variables clauses None = Unit {0}
MayBeFound variables clauses (Some found) = IsFound variables clauses found

-- the clause with a number is true, if it stands
abbrev pub IsTrueAt : ℕ → List (Option (List Literal)) → List Bool → Type 0
IsTrueAt k clauses values = (c : List Literal) → clause_at clauses k ≡ Some c
    → clause_true values c ≡ true

-- of the first n clauses each is true that stands
pub record AreTrue (n : ℕ) (clauses : List (Option (List Literal)))
    (values : List Bool) : Type 0 where
  pub each : (k : ℕ) → k < n → IsTrueAt k clauses values
