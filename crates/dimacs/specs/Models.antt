-- The answer that a solver prints for an assignment.
use Rattle.std.specs.Prelude.{ℕ, ◌+◌, Bool, List, [], ◌∷◌, ◌++◌, codes}
use Rattle.serializability.specs.declared.literal.Literal.{Literal}
use Rattle.dimacs.specs.Text.{clause_text}

-- the literals of these values, of variable n and on
abbrev pub literals_of : ℕ → List Bool → List Literal
literals_of n [] = []
literals_of n (b ∷ values) = record { variable = n; positive = b } ∷ literals_of (n + 1) values

-- the status, and all literals in one line
unfoldable pub model_text : List Bool → List ℕ
model_text values = codes "s SATISFIABLE\nv " ++ clause_text (literals_of 1 values)
