-- Clauses that follow from those that stand.
use Rattle.std.specs.Prelude.{◌≡◌, Bool, true, List, Option, None, Some}
use Rattle.std.specs.List.{AllByRecursion}
use Rattle.serializability.specs.Formula.{clause_true}
use Rattle.serializability.specs.declared.literal.Literal.{Literal}

-- a clause that was forgotten asks for nothing
abbrev pub met : List Bool → Option (List Literal) → Bool
met values None = true
met values (Some c) = clause_true values c

-- each of the clauses that stand has a true literal
abbrev pub SatisfiesAll : List Bool → List (Option (List Literal)) → Type 0
SatisfiesAll values clauses = AllByRecursion (λ c. met values c ≡ true) clauses

-- every assignment that satisfies all of the clauses satisfies the clause c
pub record Follows (clauses : List (Option (List Literal))) (c : List Literal) : Type 0 where
  pub each : (values : List Bool) → SatisfiesAll values clauses → clause_true values c ≡ true

-- every assignment that satisfies all of the old clauses satisfies all of the new ones
pub record Entails (old new : List (Option (List Literal))) : Type 0 where
  pub each : (values : List Bool) → SatisfiesAll values old → SatisfiesAll values new

-- no assignment satisfies all of the clauses
pub record IsRefuted (clauses : List (Option (List Literal))) : Type 0 where
  pub none : (values : List Bool) → SatisfiesAll values clauses → ⊥
