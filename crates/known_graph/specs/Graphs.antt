-- What is known of each graph of known edges.
use Rattle.std.specs.Prelude.{◌≡◌, ℕ, ◌<◌, ◌≤◌, Bool}
use Rattle.std.specs.List.{Contains, filter}
use Rattle.serializability.specs.Log.{Log}
use Rattle.serializability.specs.Polygraph.{Edge, arcs}
use Rattle.reach_laws.specs.Reach.{Graph}
use Rattle.known_graph.specs.Pairs.{all_pairs}
use Rattle.serializability.specs.declared.node.TheConstants.{MAX_NODES}

-- The graph has at most 1,000 nodes beside node 0. Its edges are pairs of them, each once, by the
-- first node and then the second.
pub record IsBitGraph (g : Graph) : Type 0 where
  pub few : g.nodes ≤ MAX_NODES
  pub test : Edge → Bool
  pub listed : g.edges ≡ filter test (all_pairs g.nodes)
  pub joined : (e : Edge) → Contains g.edges e → (e.0 ≤ g.nodes) × (e.1 ≤ g.nodes)

-- and an edge leads from node 0 to each other node
pub record IsKnownGraph (g : Graph) : Type 0 where
  pub few : g.nodes ≤ MAX_NODES
  pub test : Edge → Bool
  pub listed : g.edges ≡ filter test (all_pairs g.nodes)
  pub initial : (v : ℕ) → 0 < v → v ≤ g.nodes → Contains g.edges (0, v)
  pub joined : (e : Edge) → Contains g.edges e → (e.0 ≤ g.nodes) × (e.1 ≤ g.nodes)

-- the arcs of a log
abbrev pub arc_graph : Log → Graph
arc_graph log = record { nodes = log.nodes; edges = arcs log }
