-- What a checker's clauses become where steps are taken and clauses forgotten.
use Rattle.std.specs.Prelude.{◌≡◌, ℕ, ◌<◌, List, Option, Some}
use Rattle.serializability.specs.declared.literal.Literal.{Literal}
use Rattle.refutation.specs.Follows.{Entails}
use Rattle.refutation.specs.Numbered.{clause_at}

-- the new clauses follow from the old ones, and of the first n clauses each stays that stood
pub record Extends (n : ℕ) (old new : List (Option (List Literal))) : Type 0 where
  pub follows : Entails old new
  pub stays : (k : ℕ) → k < n → (c : List Literal) → clause_at old k ≡ Some c
      → clause_at new k ≡ Some c
