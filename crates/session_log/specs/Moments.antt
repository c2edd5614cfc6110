-- Moments at which transactions began and ended, as a log states them: numbers of one clock,
-- whatever its unit.
use Rattle.std.specs.Prelude.{ℕ, ◌<◌, ◌^◌, Bool, false, nat_lt, List, [], ◌∷◌, decimal, Option, Some, None}

-- both are stated, and the one is less than the other: equal moments say nothing
abbrev pub is_earlier : Option ℕ → Option ℕ → Bool
is_earlier (Some a) (Some b) = nat_lt a b
is_earlier (Some a) None = false
is_earlier None b = false

-- what a line has of a moment behind its word: a space and the number, or nothing
abbrev pub moment_text : Option ℕ → List ℕ
moment_text None = []
moment_text (Some m) = 32 ∷ decimal m

-- a moment that a log can state
abbrev pub IsMoment : Option ℕ → Type 0
IsMoment None = Unit {0}
IsMoment (Some m) = m < 2 ^ 64
