-- How far a propagation is that looks at one clause after the other.
use Rattle.std.specs.Prelude.{◌≡◌, ℕ, ◌≤◌, Bool, true, false, ◌⊎◌, List, [], ◌∷◌, ◌++◌, Option, Some, length, IsTrue, IsFalse}
use Rattle.std.specs.List.{Contains}
use Rattle.serializability.specs.declared.literal.Literal.{Literal}
use Rattle.refutation.specs.Numbered.{clause_at}
use Rattle.proof_checks.specs.Distinct.{is_same, is_among, negated}
use Rattle.proof_checks.specs.Propagation.{IsImplied, IsMadeFalse}
use Rattle.proof_checks.specs.declared.plain.Left.{Left}
use Rattle.proof_checks.specs.declared.plain.Left.TheVariants as left

-- all literals of a clause but l are among these
pub record IsLast (marked d : List Literal) (l : Literal) : Type 0 where
  pub stands : IsTrue (is_among d l)
  pub unmarked : IsFalse (is_among marked l)
  pub others : (m : Literal) → IsTrue (is_among d m) → IsFalse (is_same m l)
      → IsTrue (is_among marked m)

-- two literals of a clause are not
pub record IsOpen (marked d : List Literal) : Type 0 where
  pub one : Literal
  pub two : Literal
  pub one_stands : IsTrue (is_among d one)
  pub two_stands : IsTrue (is_among d two)
  pub differ : IsFalse (is_same one two)
  pub one_unmarked : IsFalse (is_among marked one)
  pub two_unmarked : IsFalse (is_among marked two)

abbrev pub IsLeft : List Literal → List Literal → Left → Type 0
IsLeft marked d left.Nothing = (m : Literal) → IsTrue (is_among d m) → IsTrue (is_among marked m)
IsLeft marked d (left.One l) = IsLast marked d l
IsLeft marked d left.More = IsOpen marked d

-- the opposite of a clause's last literal is among them too
pub record IsDone (marked d : List Literal) : Type 0 where
  pub last : Literal
  pub is_last : IsLast marked d last
  pub made_true : IsTrue (is_among marked (negated last))

-- these are made false, and those of c are among them
pub record AreFalse (clauses : List (Option (List Literal))) (c marked : List Literal) : Type 0
  where
    pub assumed : (l : Literal) → IsTrue (is_among c l) → IsTrue (is_among marked l)
    pub made_false : (l : Literal) → IsTrue (is_among marked l) → IsMadeFalse clauses c l

-- what is made false stays so, and a clause that is done with
pub record Keeps (clauses : List (Option (List Literal))) (c old new : List Literal) : Type 0 where
  pub are_false : AreFalse clauses c new
  pub done : (d : List Literal) → IsDone old d → IsDone new d

-- a look at each of the clauses with these numbers, of which some are kept
pub record Passes (clauses : List (Option (List Literal))) (c old new : List Literal)
    (numbers kept : List ℕ) : Type 0 where
  pub keeps : Keeps clauses c old new
  pub looked : (k : ℕ) (d : List Literal) → Contains numbers k → clause_at clauses k ≡ Some d
      → Contains kept k ⊎ IsDone new d
  pub fewer : length kept ≤ length numbers
  pub quiet : length kept ≡ length numbers → (k : ℕ) (d : List Literal) → Contains kept k
      → clause_at clauses k ≡ Some d → IsOpen new d

-- a look at one more clause, unless it had no literal left
abbrev pub Visits : List (Option (List Literal)) → List Literal → List Literal → List Literal → ℕ
    → List ℕ → List ℕ → Bool → Type 0
Visits clauses c old new k before kept true = IsImplied clauses c
Visits clauses c old new k before kept false = (first : List Literal) (front : List ℕ)
    → Passes clauses c first old front before → Passes clauses c first new (front ++ k ∷ []) kept

abbrev pub PassesOr : List (Option (List Literal)) → List Literal → List Literal → List Literal
    → List ℕ → List ℕ → Bool → Type 0
PassesOr clauses c old new numbers kept true = IsImplied clauses c
PassesOr clauses c old new numbers kept false = Passes clauses c old new numbers kept

-- each clause is done with or has one of these numbers
pub record Covers (clauses : List (Option (List Literal))) (marked : List Literal)
    (numbers : List ℕ) : Type 0 where
  pub each : (k : ℕ) (d : List Literal) → clause_at clauses k ≡ Some d
      → Contains numbers k ⊎ IsDone marked d

-- whether a clause follows
abbrev pub EndsAt : List (Option (List Literal)) → List Literal → Bool → Type 0
EndsAt clauses c true = IsImplied clauses c
EndsAt clauses c false = IsImplied clauses c → ⊥
