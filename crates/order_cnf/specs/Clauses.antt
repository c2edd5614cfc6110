-- The literals of a clause.
use Rattle.std.specs.Prelude.{ℕ, ◌<◌, ◌≤◌, List, [], ◌∷◌}
use Rattle.serializability.specs.declared.literal.Literal.{Literal}
use Rattle.order_cnf.specs.declared.clause.Clause.{Clause}
use Rattle.order_cnf.specs.declared.clause.Clause.TheVariants.{Unit as One, Pair as Two, Triple as Three}

abbrev pub literals : Clause → List Literal
literals (One a) = a ∷ []
literals (Two a b) = a ∷ b ∷ []
literals (Three a b c) = a ∷ b ∷ c ∷ []

-- the literal's variable is one of 1 to this number
abbrev pub IsWithin : ℕ → Literal → Type 0
IsWithin variables l = (0 < l.variable) × (l.variable ≤ variables)
