-- Nodes by what they reach.
use Rattle.std.specs.Prelude.{◌≡◌, ℕ, ◌+◌, ◌<◌, ◌≤◌, not, List, length}
use Rattle.std.specs.List.{Contains, count_by, range_with_len}
use Rattle.serializability.specs.Replay.{place_of}
use Rattle.reach_laws.specs.Reach.{Graph}
use Rattle.known_graph.specs.Tests.{has_edge}

-- how many of nodes 0 to n a node does not reach, by the rows of a graph
abbrev pub unreached : Graph → ℕ → ℕ
unreached rows u = count_by (λ v. not (has_edge rows.edges (u, v)))
    (range_with_len 0 (rows.nodes + 1))

-- the order has each of nodes 1 to n, and a node that reaches more before each that reaches fewer
pub record IsOrderByReach (rows : Graph) (order : List ℕ) : Type 0 where
  pub places : length order ≡ rows.nodes
  pub each : (v : ℕ) → 0 < v → v ≤ rows.nodes → Contains order v
  pub sorted : (u v : ℕ) → Contains order u → Contains order v → unreached rows u < unreached rows v
      → place_of order u < place_of order v
