-- Literals of a clause, each once.
use Rattle.std.specs.Prelude.{ℕ, ◌+◌, ◌*◌, Bool, not, if◌then◌else◌, ◌==◌, List, [], ◌∷◌, ◌++◌, filter}
use Rattle.std.specs.List.{list_any}
use Rattle.serializability.specs.declared.literal.Literal.{Literal}

-- a literal as a number: twice its variable, and one more for the negation
abbrev pub code_of : Literal → ℕ
code_of l = 2 * l.variable + (if l.positive then 0 else 1)

abbrev pub is_same : Literal → Literal → Bool
is_same l m = code_of l == code_of m

-- the literal stands among these
abbrev pub is_among : List Literal → Literal → Bool
is_among ls l = list_any (is_same l) ls

-- a literal more, unless it stands among these
abbrev pub with_literal : List Literal → Literal → List Literal
with_literal ls l = ls ++ (if is_among ls l then [] else l ∷ [])

-- each literal once, where it first stands
unfoldable pub distinct : List Literal → List Literal
distinct [] = []
distinct (l ∷ ls) = l ∷ filter (λ m. not (is_same l m)) (distinct ls)

abbrev pub negated : Literal → Literal
negated l = record l { positive = not l.positive }

-- a literal and its negation stand among these
abbrev pub is_tautology : List Literal → Bool
is_tautology ls = list_any (λ l. is_among ls (negated l)) ls
