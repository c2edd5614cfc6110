-- A table that holds a bit for each pair of nodes.
use Rattle.std.specs.Prelude.{◌≡◌, ℕ, ◌+◌, ◌*◌, ◌<◌, ◌≤◌, Bool, false, List, length}
use Rattle.std.specs.List.{filter}
use Rattle.serializability.specs.Polygraph.{Edge}
use Rattle.reach_laws.specs.Reach.{Graph}
use Rattle.known_graph.specs.Bits.{bit_of, row_len}
use Rattle.known_graph.specs.Pairs.{all_pairs}
use Rattle.known_graph.specs.declared.bit_table.BitTable.TheInside.{Inside}
use Rattle.serializability.specs.declared.node.TheConstants.{MAX_NODES}

-- the number of the bit of a pair, where a row of words has the pairs with one first node
unfoldable pub bit_place : ℕ → ℕ → ℕ → ℕ
bit_place n u v = u * (row_len n * 64) + v

unfoldable pub is_marked : ℕ → List ℕ → Edge → Bool
is_marked n words e = bit_of words (bit_place n e.0 e.1)

unfoldable pub marked_graph : ℕ → List ℕ → Graph
marked_graph n words = record { nodes = n; edges = filter (is_marked n words) (all_pairs n) }

abbrev pub graph_of : Inside → Graph
graph_of t = marked_graph t.nodes t.words.items

-- the words have a row for each of nodes 0 to n, and no bit is set of a node above
pub record IsMarked (n : ℕ) (words : List ℕ) : Type 0 where
  pub few : n ≤ MAX_NODES
  pub places : length words ≡ (n + 1) * row_len n
  pub clear : (u v : ℕ) → u ≤ n → n < v → v < row_len n * 64 → is_marked n words (u, v) ≡ false

abbrev pub IsHeld : Inside → Type 0
IsHeld t = IsMarked t.nodes t.words.items
