-- A search of a graph: the nodes that were found, each with the place of the one from which it was
-- found.
use Rattle.std.specs.Prelude.{ℕ, ◌-◌, ◌*◌, ◌<◌, ◌==◌, ◌&&◌, not, List, length, map, slice_index_or}
use Rattle.std.specs.List.{Contains, filter, range_with_len}
use Rattle.std.specs.Int.{bit_at}
use Rattle.serializability.specs.Polygraph.{Edge}
use Rattle.known_graph.specs.declared.reached.Reached.{Reached}
use Rattle.known_graph.specs.Bits.{bit_of}

-- these nodes, found from one place
abbrev pub reached_from : ℕ → List ℕ → List Reached
reached_from place nodes = map (λ v. record { node = v; from = place }) nodes

-- the numbers of the set bits of a word of which bit 0 has this number, ascending
unfoldable pub word_numbers : ℕ → ℕ → List ℕ
word_numbers first word = filter (λ v. bit_at word (v - first) == 1) (range_with_len first 64)

-- the numbers that these words have and those do not, ascending
unfoldable pub fresh_numbers : List ℕ → List ℕ → List ℕ
fresh_numbers words seen = filter (λ v. bit_of words v && not (bit_of seen v))
    (range_with_len 0 (length words * 64))

-- the node at a place, and the place from which it was found
abbrev pub node_at : List Reached → ℕ → ℕ
node_at found k = (slice_index_or found k (record { node = 0; from = 0 })).node

abbrev pub from_at : List Reached → ℕ → ℕ
from_at found k = (slice_index_or found k (record { node = 0; from = 0 })).from

-- each node but the first was found from an earlier one, by an edge
pub record IsTree (edges : List Edge) (found : List Reached) : Type 0 where
  pub earlier : (k : ℕ) → 0 < k → k < length found → from_at found k < k
  pub edge : (k : ℕ) → 0 < k → k < length found
      → Contains edges (node_at found (from_at found k), node_at found k)
