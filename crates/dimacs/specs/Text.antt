-- The DIMACS text of a formula.
use Rattle.std.specs.Prelude.{ℕ, if◌then◌else◌, List, ◌∷◌, ◌++◌, length, codes, decimal}
use Rattle.std.specs.List.{flat_map}
use Rattle.serializability.specs.declared.literal.Literal.{Literal}
use Rattle.serializability.specs.Formula.{Cnf}

-- `3`, or `-3` where the variable is negated
abbrev pub literal_text : Literal → List ℕ
literal_text l = if l.positive then decimal l.variable else 45 ∷ decimal l.variable

-- the literals, each with a space behind it, then `0` and a line feed
abbrev pub clause_text : List Literal → List ℕ
clause_text c = flat_map (λ l. literal_text l ++ codes " ") c ++ codes "0\n"

-- `p cnf V C`, by the numbers of variables and clauses
abbrev pub header : ℕ → ℕ → List ℕ
header variables clauses = codes "p cnf " ++ decimal variables ++ codes " " ++ decimal clauses
    ++ codes "\n"

-- the first line, and a line for each clause
unfoldable pub text_of : Cnf → List ℕ
text_of f = header f.variables (length f.clauses) ++ flat_map clause_text f.clauses
