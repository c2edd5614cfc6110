-- Pairs of nodes: of some it is known which comes first, and each other one has a variable.
use Rattle.std.specs.Prelude.{ℕ, suc, ◌==◌, ◌&&◌, nat_lt, not, Bool, true, false, if◌then◌else◌, List, [], ◌∷◌, ◌++◌, map}
use Rattle.std.specs.List.{filter, flat_map, list_any}
use Rattle.serializability.specs.declared.literal.Literal.{Literal}
use Rattle.serializability.specs.Polygraph.{Edge}

-- the pairs of a list, by the first and then the second
abbrev pub pairs_of : List ℕ → List (ℕ × ℕ)
pairs_of [] = []
pairs_of (a ∷ rest) = map (λ b. (a, b)) rest ++ pairs_of rest

-- the triples of a list, in lexicographic order of their places
abbrev pub triples_of : List ℕ → List (ℕ × ℕ × ℕ)
triples_of [] = []
triples_of (i ∷ rest) = map (λ p. (i, p.0, p.1)) (pairs_of rest) ++ triples_of rest

-- which nodes are known to stand before which
abbrev pub Known : Type 0
Known = ℕ → ℕ → Bool

abbrev pub is_free : Known → (ℕ × ℕ) → Bool
is_free known p = not (known p.0 p.1) && not (known p.1 p.0)

-- the pairs with a variable, in lexicographic order, numbered from 1
abbrev pub free_pairs : Known → List ℕ → List (ℕ × ℕ)
free_pairs known nodes = filter (is_free known) (pairs_of nodes)

abbrev pub pair_place : List (ℕ × ℕ) → ℕ → ℕ → ℕ
pair_place [] i j = 0
pair_place (p ∷ pairs) i j = if (p.0 == i) && (p.1 == j) then 0 else suc (pair_place pairs i j)

-- "u before v"
abbrev pub edge_literal : List (ℕ × ℕ) → ℕ → ℕ → Literal
edge_literal pairs u v =
    if nat_lt u v
    then record { variable = suc (pair_place pairs u v); positive = true }
    else record { variable = suc (pair_place pairs v u); positive = false }

-- "one of these edges": no clause where one is known, and without those known to be turned round
abbrev pub edge_clause : Known → List (ℕ × ℕ) → List Edge → List (List Literal)
edge_clause known pairs edges =
    if list_any (λ e. known e.0 e.1) edges then []
    else map (λ e. edge_literal pairs e.0 e.1) (filter (λ e. not (known e.1 e.0)) edges) ∷ []

-- no cycle through i, j and k, either way round
abbrev pub triple_clauses : Known → List (ℕ × ℕ) → (ℕ × ℕ × ℕ) → List (List Literal)
triple_clauses known pairs t =
    edge_clause known pairs ((t.1, t.0) ∷ (t.2, t.1) ∷ (t.0, t.2) ∷ [])
    ++ edge_clause known pairs ((t.0, t.1) ∷ (t.1, t.2) ∷ (t.2, t.0) ∷ [])

abbrev pub order_clauses : Known → List ℕ → List (List Literal)
order_clauses known nodes = flat_map (triple_clauses known (free_pairs known nodes))
    (triples_of nodes)
