-- What a call of `show` did.
use Rattle.std.specs.Prelude.{◌≡◌, ℕ, ◌≤◌, List, [], ◌∷◌, ◌++◌, Some, length}
use Rattle.serializability.specs.declared.literal.Literal.{Literal}
use Rattle.refutation.specs.Follows.{Follows}
use Rattle.refutation.specs.Known.{left_of, with_true}
use Rattle.refutation.specs.Numbered.{clause_at}
use Rattle.refutation.specs.Standing.{Standing}
use Rattle.refutation.specs.declared.checker.Shown.{Shown}
use Rattle.refutation.specs.declared.checker.Shown.TheVariants.{Nothing, Forced, Closed}

-- there is no such clause, or more than one of its literals is left
pub record ShowsNothing (old new : Standing) (k : ℕ) : Type 0 where
  pub left : (c : List Literal) → clause_at old.clauses k ≡ Some c
      → 2 ≤ length (left_of old.known c)
  pub same : new ≡ old

-- the literal l alone is left, and is known to be true now
pub record Forces (old new : Standing) (k : ℕ) (l : Literal) : Type 0 where
  pub clause : List Literal
  pub shown : clause_at old.clauses k ≡ Some clause
  pub left : left_of old.known clause ≡ l ∷ []
  pub known : new ≡ record old { known = with_true old.known l }

-- nothing is left; so the step's clause follows, and stands now
pub record Closes (old new : Standing) (k : ℕ) : Type 0 where
  pub clause : List Literal
  pub shown : clause_at old.clauses k ≡ Some clause
  pub left : left_of old.known clause ≡ []
  pub follows : Follows old.clauses old.step
  pub stands : new ≡ record old { clauses = old.clauses ++ Some old.step ∷ [] }

abbrev pub Shows : Standing → Standing → ℕ → Shown → Type 0
Shows old new k Nothing = ShowsNothing old new k
Shows old new k (Forced l) = Forces old new k l
Shows old new k Closed = Closes old new k
