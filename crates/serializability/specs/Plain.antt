-- The plain formula of a log, in which each pair of nodes 0 to n has a variable, and the
-- contradiction.
use Rattle.std.specs.Prelude.{ℕ, ◌+◌, true, false, List, [], ◌∷◌, ◌++◌, length, map}
use Rattle.std.specs.List.{range_with_len}
use Rattle.serializability.specs.declared.literal.Literal.{Literal}
use Rattle.serializability.specs.Log.{Log}
use Rattle.serializability.specs.Polygraph.{Edge, Polygraph, bipath_polygraph}
use Rattle.serializability.specs.Formula.{Cnf}
use Rattle.serializability.specs.Pairs.{Known, free_pairs, edge_literal, order_clauses}

-- of no pair it is known which comes first
abbrev pub nothing_known : Known
nothing_known u v = false

abbrev pub plain_nodes : ℕ → List ℕ
plain_nodes n = range_with_len 0 (n + 1)

abbrev pub plain_pairs : ℕ → List (ℕ × ℕ)
plain_pairs n = free_pairs nothing_known (plain_nodes n)

abbrev pub literals_of : ℕ → List Edge → List Literal
literals_of n edges = map (λ e. edge_literal (plain_pairs n) e.0 e.1) edges

-- of a polygraph with one edge a side: a unit for each known edge, a clause for each choice, and
-- the triples of nodes 0 to n
abbrev pub plain_of : Polygraph → Cnf
plain_of p = record {
  nodes = p.nodes;
  known = nothing_known;
  variables = length (plain_pairs p.nodes);
  clauses = map (λ e. literals_of p.nodes (e ∷ [])) p.known
      ++ map (λ c. literals_of p.nodes (c.one ++ c.two)) p.choices
      ++ order_clauses nothing_known (plain_nodes p.nodes);
}

unfoldable pub plain : Log → Cnf
plain log = plain_of (bipath_polygraph log)

-- a formula that no assignment satisfies: it stands for a log with an anomaly
abbrev pub contradiction : Cnf
contradiction = record {
  nodes = 0;
  known = nothing_known;
  variables = 1;
  clauses = (record { variable = 1; positive = true } ∷ []) ∷
      (record { variable = 1; positive = false } ∷ []) ∷ [];
}
