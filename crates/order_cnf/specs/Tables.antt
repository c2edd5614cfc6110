-- What a formula knows of pairs of nodes, as data.
use Rattle.std.specs.Prelude.{◌≡◌, ℕ, suc, ◌+◌, ◌*◌, ◌<◌, ◌≤◌, Bool, true, false, if◌then◌else◌, List, [], ◌∷◌, length, slice_index_or, Option, None, Some}
use Rattle.std.specs.List.{list_any, range_with_len}
use Rattle.serializability.specs.declared.literal.Literal.{Literal}
use Rattle.serializability.specs.Pairs.{Known, is_free, free_pairs, pair_place, edge_literal}
use Rattle.reach_laws.specs.Reach.{Graph}
use Rattle.order_cnf.specs.declared.term.Term.{Term}
use Rattle.order_cnf.specs.declared.term.Term.TheVariants as term
use Rattle.order_cnf.specs.declared.clause.Clause.{Clause}
use Rattle.order_cnf.specs.Clauses.{literals}
use Rattle.order_cnf.specs.Data.{is_listed}
use Rattle.serializability.specs.declared.node.TheConstants.{MAX_NODES}

-- nodes 0 to `nodes`, and the pairs (u, v) of which it is known that u stands before v
pub record Relation : Type 0 where
  pub nodes : ℕ
  pub known : List (ℕ × ℕ)

abbrev pub known_in : Relation → Known
known_in r = is_listed r.known

-- the pairs that have a variable, in order
abbrev pub pairs_in : Relation → List (ℕ × ℕ)
pairs_in r = free_pairs (known_in r) (range_with_len 0 (r.nodes + 1))

-- what reaches what by these rows, where there are any
abbrev pub rows_known : Option Graph → List (ℕ × ℕ)
rows_known None = []
rows_known (Some rows) = rows.edges

-- what is known is a strict order
pub record IsStrict (known : Known) : Type 0 where
  pub irreflexive : (u : ℕ) → known u u ≡ false
  pub transitive : (u v w : ℕ) → known u v ≡ true → known v w ≡ true → known u w ≡ true

-- what a formula says of "u before v": it is known to be so or not to be so, or a literal says it
abbrev pub term_of : Relation → ℕ → ℕ → Term
term_of r u v =
    if known_in r u v then term.True else
    (if known_in r v u then term.False else term.Open (edge_literal (pairs_in r) u v))

-- the variable of a pair, and 0 where it is known which comes first
abbrev pub variable_of : Relation → ℕ → ℕ → ℕ
variable_of r u v = if is_free (known_in r) (u, v) then suc (pair_place (pairs_in r) u v) else 0

-- a table of these variables, row by row
pub record IsTable (r : Relation) (table : List ℕ) : Type 0 where
  pub few : r.nodes ≤ MAX_NODES
  pub strict : IsStrict (known_in r)
  pub places : length table ≡ (r.nodes + 1) * (r.nodes + 1)
  pub entry : (u v : ℕ) → u < v → v ≤ r.nodes → slice_index_or table
      (u * (r.nodes + 1) + v) 0 ≡ variable_of r u v

-- "one of these", where no term is true
abbrev pub is_true : Term → Bool
is_true term.True = true
is_true term.False = false
is_true (term.Open l) = false

abbrev pub literals_in : List Term → List Literal
literals_in [] = []
literals_in (term.True ∷ ts) = literals_in ts
literals_in (term.False ∷ ts) = literals_in ts
literals_in (term.Open l ∷ ts) = l ∷ literals_in ts

unfoldable pub clause_of : List Term → List (List Literal)
clause_of ts = if list_any is_true ts then [] else literals_in ts ∷ []

-- the literals of a clause, where there is one
abbrev pub given : Option Clause → List (List Literal)
given None = []
given (Some c) = literals c ∷ []
