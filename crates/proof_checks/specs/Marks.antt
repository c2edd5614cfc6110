-- Marks of literals: a literal is marked where it was in this round.
use Rattle.std.specs.Prelude.{◌≡◌, ℕ, ◌<◌, ◌≤◌, ◌==◌, List, slice_index}
use Rattle.serializability.specs.declared.literal.Literal.{Literal}
use Rattle.proof_checks.specs.Distinct.{code_of, is_among}
use Rattle.proof_checks.specs.declared.distinct.Marks.{Marks}

-- none is of a later round
pub record AreRounds (rounds : List ℕ) (round : ℕ) : Type 0 where
  pub begun : 0 < round
  pub passed : (k : ℕ) → slice_index rounds k ≤ round

-- the literals of this round are these
pub record AreMarks (rounds : List ℕ) (round : ℕ) (marked : List Literal) : Type 0 where
  pub rounds_are : AreRounds rounds round
  pub exactly : (l : Literal) → (slice_index rounds (code_of l) == round) ≡ is_among marked l

abbrev pub HasRounds : Marks → Type 0
HasRounds marks = AreRounds marks.rounds.items marks.round

-- the marked literals are these
abbrev pub IsMarking : Marks → List Literal → Type 0
IsMarking marks marked = AreMarks marks.rounds.items marks.round marked
