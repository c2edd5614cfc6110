-- The reduced formula of a polygraph: a variable for each pair of nodes of which neither reaches
-- the other, and one for each choice.
use Rattle.std.specs.Prelude.{◌≡◌, ◌↔◌, ℕ, suc, ◌+◌, true, false, if◌then◌else◌, List, [], ◌∷◌, ◌++◌, length}
use Rattle.std.specs.List.{range_with_len}
use Rattle.serializability.specs.declared.literal.Literal.{Literal}
use Rattle.serializability.specs.Polygraph.{Edge, Choice, Polygraph}
use Rattle.serializability.specs.Formula.{Cnf}
use Rattle.serializability.specs.Pairs.{Known, free_pairs, edge_literal, order_clauses}
use Rattle.reach_laws.specs.Reach.{Reaches}

-- "or else this edge", for each of these that is not known
abbrev pub side_clauses : Known → List (ℕ × ℕ) → Literal → List Edge → List (List Literal)
side_clauses known pairs or_else [] = []
side_clauses known pairs or_else (e ∷ edges) =
    (if known e.0 e.1 then [] else (or_else ∷ edge_literal pairs e.0 e.1 ∷ []) ∷ [])
    ++ side_clauses known pairs or_else edges

-- the choices' variables count from c, and are true where side one is kept
abbrev pub choice_clauses : Known → List (ℕ × ℕ) → ℕ → List Choice → List (List Literal)
choice_clauses known pairs c [] = []
choice_clauses known pairs c (h ∷ rest) =
    side_clauses known pairs (record { variable = c; positive = false }) h.one
    ++ side_clauses known pairs (record { variable = c; positive = true }) h.two
    ++ choice_clauses known pairs (c + 1) rest

-- nodes 1 to n
abbrev pub order_nodes : ℕ → List ℕ
order_nodes n = range_with_len 1 n

-- of what is known of the nodes, and of the choices: the clauses of each three nodes, and then
-- those of each choice
unfoldable pub reduced : Known → Polygraph → Cnf
reduced known p =
    let pairs = free_pairs known (order_nodes p.nodes) in
    record {
      nodes = p.nodes;
      known = known;
      variables = length pairs + length p.choices;
      clauses = order_clauses known (order_nodes p.nodes) ++ choice_clauses known pairs
          (suc (length pairs)) p.choices;
    }

-- what is known is what reaches what by these edges
pub record IsReach (edges : List Edge) (known : Known) : Type 0 where
  pub each : (u v : ℕ) → (known u v ≡ true ↔ Reaches edges u v)
