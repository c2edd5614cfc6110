-- Unit propagation.
use Rattle.std.specs.Prelude.{IsTrue, IsFalse, List, Option, Some}
use Rattle.std.specs.List.{Contains}
use Rattle.serializability.specs.declared.literal.Literal.{Literal}
use Rattle.proof_checks.specs.Distinct.{is_same, is_among, negated}

-- A literal is made false where the clause c is false: it is one of c's, or the opposite of a
-- literal of a clause whose others are made false.
pub data IsMadeFalse (clauses : List (Option (List Literal))) (c : List Literal) : Literal → Type 0
  where
    assumed : (l : Literal) → IsTrue (is_among c l) → IsMadeFalse clauses c l
    forced : (d : List Literal) (l : Literal) → Contains clauses (Some d)
        → IsTrue (is_among d (negated l))
        → ((m : Literal) → IsTrue (is_among d m) → IsFalse (is_same m (negated l))
        → IsMadeFalse clauses c m) → IsMadeFalse clauses c l

-- c follows by unit propagation: some clause has no literal then that is not made false
pub record IsImplied (clauses : List (Option (List Literal))) (c : List Literal) : Type 0 where
  pub clause : List Literal
  pub stands : Contains clauses (Some clause)
  pub all_false : (m : Literal) → IsTrue (is_among clause m) → IsMadeFalse clauses c m
