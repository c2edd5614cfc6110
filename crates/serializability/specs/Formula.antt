-- Formulas in conjunctive normal form, and the assignments that satisfy them.
use Rattle.std.specs.Prelude.{◌≡◌, ℕ, ◌-◌, ◌<◌, ◌≤◌, Bool, true, false, not, if◌then◌else◌, List, length, slice_index_or}
use Rattle.std.specs.List.{list_any, AllByRecursion}
use Rattle.serializability.specs.declared.literal.Literal.{Literal}

-- Variables 1 to `variables`, and clauses, each a list of literals. A formula speaks of the order
-- of nodes 0 to `nodes`:
-- of some pairs it is known which comes first, and each other pair has a variable.
pub record Cnf : Type 0 where
  pub nodes : ℕ
  pub known : ℕ → ℕ → Bool
  pub variables : ℕ
  pub clauses : List (List Literal)

-- the value of a variable, which counts from 1
abbrev pub value_of : List Bool → ℕ → Bool
value_of values v = slice_index_or values (v - 1) false

abbrev pub literal_true : List Bool → Literal → Bool
literal_true values l = if l.positive then value_of values l.variable else not
    (value_of values l.variable)

abbrev pub clause_true : List Bool → List Literal → Bool
clause_true values c = list_any (literal_true values) c

-- an assignment has a value for each variable, and satisfies the formula where each clause has a
-- true literal
pub record Satisfies (values : List Bool) (f : Cnf) : Type 0 where
  pub each_variable : length values ≡ f.variables
  pub each_clause : AllByRecursion (λ c. clause_true values c ≡ true) f.clauses

-- each literal of the formula is one of its variables, or the negation of one
abbrev pub IsInRange : Cnf → Type 0
IsInRange f = AllByRecursion (AllByRecursion (λ l. (0 < l.variable) × (l.variable ≤ f.variables)))
    f.clauses

-- clauses have one to three literals
abbrev pub HasShortClauses : Cnf → Type 0
HasShortClauses f = AllByRecursion (λ c. (0 < length c) × (length c ≤ 3)) f.clauses
