-- The clauses of a formula that are still to come, one kind after another.
use Rattle.std.specs.Prelude.{◌≡◌, ℕ, ◌+◌, ◌-◌, ◌*◌, true, false, if◌then◌else◌, List, [], ◌∷◌, ◌++◌, length, map, take, drop, Option, None}
use Rattle.std.specs.List.{flat_map, range_with_len}
use Rattle.serializability.specs.declared.literal.Literal.{Literal}
use Rattle.serializability.specs.Polygraph.{Edge, Choice}
use Rattle.serializability.specs.Pairs.{edge_literal, pairs_of, triples_of, triple_clauses}
use Rattle.order_laws.specs.Reduced.{side_clauses}
use Rattle.polygraph.specs.Polygraphs.{Joins}
use Rattle.order_cnf.specs.Bipaths.{IsBipath}
use Rattle.order_cnf.specs.declared.clause.Clause.{Clause}
use Rattle.order_cnf.specs.Tables.{Relation, known_in, pairs_in, given}

-- ---- triples of nodes

-- the numbers from k up to the end
abbrev pub up_to : ℕ → ℕ → List ℕ
up_to k end = range_with_len k (end - k)

abbrev pub clauses_at : Relation → (ℕ × ℕ × ℕ) → List (List Literal)
clauses_at r t = triple_clauses (known_in r) (pairs_in r) t

-- of three of these nodes; of i and two of these; of i, j and one of these
unfoldable pub of_three : Relation → List ℕ → List (List Literal)
of_three r nodes = flat_map (clauses_at r) (triples_of nodes)

unfoldable pub of_two : Relation → ℕ → List ℕ → List (List Literal)
of_two r i nodes = flat_map (clauses_at r) (map (λ p. (i, p.0, p.1)) (pairs_of nodes))

unfoldable pub of_one : Relation → ℕ → ℕ → List ℕ → List (List Literal)
of_one r i j nodes = flat_map (clauses_at r) (map (λ k. (i, j, k)) nodes)

-- a step of what is left: its first clause, or none where nothing is
pub record IsStep (old : List (List Literal)) (item : Option Clause)
    (new : List (List Literal)) : Type 0 where
  pub parts : old ≡ given item ++ new
  pub last : item ≡ None → new ≡ []

-- ---- sides of choices

-- the literal of the next side: a choice's variable is negated with side one
abbrev pub turned : Literal → Literal
turned l = if l.positive then record { variable = l.variable + 1; positive = false } else
    record { variable = l.variable; positive = true }

-- how many sides come before the one of this literal, and two more
abbrev pub rank_of : Literal → ℕ
rank_of l = 2 * l.variable + (if l.positive then 1 else 0)

-- behind a side of this literal, sides of so many edges each
unfoldable pub sides_after : Relation → Literal → List Edge → List ℕ → List (List Literal)
sides_after r l edges [] = []
sides_after r l edges (n ∷ counts) =
    side_clauses (known_in r) (pairs_in r) (turned l) (take n edges) ++ sides_after r (turned l)
    (drop n edges) counts

-- so many edges of the side of this literal, and then the sides behind it
abbrev pub sides_left : Relation → Literal → ℕ → List Edge → List ℕ → List (List Literal)
sides_left r l n edges counts = side_clauses (known_in r) (pairs_in r) l
    (take n edges) ++ sides_after r l (drop n edges) counts

-- behind the last pair's variable
abbrev pub last_variable : Relation → Literal
last_variable r = record { variable = length (pairs_in r); positive = true }

-- the edge joins two different nodes, and it is not known to be turned round
pub record IsUnturned (r : Relation) (e : Edge) : Type 0 where
  pub joins : Joins r.nodes e
  pub open_to : known_in r e.1 e.0 ≡ false

-- ---- units and bipaths
unfoldable pub units_of : List Literal → List (List Literal)
units_of literals = map (λ l. l ∷ []) literals

unfoldable pub bipaths_of : Relation → List Choice → List (List Literal)
bipaths_of r bipaths = map (λ c. map (λ e. edge_literal (pairs_in r) e.0 e.1) (c.one ++ c.two))
    bipaths

-- each side of the bipath is one edge, and of neither edge it is known whether it is so
pub record IsFreeBipath (r : Relation) (c : Choice) : Type 0 where
  pub bipath : IsBipath r.nodes c
  pub nothing : r.known ≡ []

-- these units, then these bipaths, then these clauses of triples and of sides
unfoldable pub rest_of : Relation → List Literal → List Choice → List (List Literal)
    → List (List Literal) → List (List Literal)
rest_of r units bipaths triples sides = units_of units ++
    (bipaths_of r bipaths ++ (triples ++ sides))
