-- What the rows of a graph say.
use Rattle.std.specs.Prelude.{◌≡◌, ◌⊎◌, ◌↔◌, ℕ, Bool}
use Rattle.std.specs.List.{Contains, filter}
use Rattle.serializability.specs.Polygraph.{Edge}
use Rattle.reach_laws.specs.Reach.{Graph, Reaches}
use Rattle.known_graph.specs.Pairs.{all_pairs}

-- The rows of a graph, as a graph of its nodes: its edges are the pairs of which the first node
-- reaches the second, each once, by the first node and then the second.
pub record AreRowsOf (rows graph : Graph) : Type 0 where
  pub nodes : rows.nodes ≡ graph.nodes
  pub reach : (u v : ℕ) → (Contains rows.edges (u, v) ↔ Reaches graph.edges u v)
  pub test : Edge → Bool
  pub listed : rows.edges ≡ filter test (all_pairs rows.nodes)

-- the same nodes, and one edge more
pub record AddsEdge (old new : Graph) (edge : Edge) : Type 0 where
  pub nodes : new.nodes ≡ old.nodes
  pub edges : (e : Edge) → (Contains new.edges e ↔ (Contains old.edges e ⊎ (e ≡ edge)))
