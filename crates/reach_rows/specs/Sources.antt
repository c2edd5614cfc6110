-- Rows of bits and what they say of a graph.
use Rattle.std.specs.Prelude.{◌≡◌, ◌⊎◌, ◌↔◌, ℕ, ◌-◌, ◌*◌, ◌<◌, ◌≤◌, true, List, length}
use Rattle.std.specs.List.{Contains}
use Rattle.serializability.specs.Polygraph.{Edge}
use Rattle.reach_laws.specs.Reach.{Graph, Reaches}
use Rattle.known_graph.specs.Bits.{bit_of, row_len}
use Rattle.known_graph.specs.Held.{is_marked}

-- the new row has the nodes of the old one and what they reach
pub record Spreads (edges : List Edge) (old new : List ℕ) : Type 0 where
  pub kept : (v : ℕ) → bit_of old v ≡ true → bit_of new v ≡ true
  pub found : (v : ℕ) → bit_of new v ≡ true → (bit_of old v ≡ true)
      ⊎ ((w : ℕ) × (bit_of old w ≡ true) × Reaches edges w v)
  pub closed : (w v : ℕ) → bit_of new w ≡ true → Contains edges (w, v) → bit_of new v ≡ true

-- the row of a node of the graph has a bit for each node that it reaches
pub record IsReachRow (graph : Graph) (u : ℕ) (row : List ℕ) : Type 0 where
  pub len : length row ≡ row_len graph.nodes
  pub reach : (v : ℕ) → ((bit_of row v ≡ true) ↔ Reaches graph.edges u v)

-- the rows of the nodes from `first` on and below `last`, one behind the other
pub record AreReachRows (graph : Graph) (first last : ℕ) (words : List ℕ) : Type 0 where
  pub len : length words ≡ (last - first) * row_len graph.nodes
  pub reach : (u v : ℕ) → first ≤ u → u < last → v < row_len graph.nodes * 64
      → ((is_marked graph.nodes words (u - first, v) ≡ true) ↔ Reaches graph.edges u v)

-- u, and each node that reaches u, now also reaches v and what v reached
abbrev pub IsGrown : List Edge → ℕ → ℕ → Edge → Type 0
IsGrown old u v e =
    Contains old e
    ⊎ (((e.0 ≡ u) ⊎ Contains old (e.0, u)) × ((e.1 ≡ v) ⊎ Contains old (v, e.1)))
