-- Pairs of nodes.
use Rattle.std.specs.Prelude.{ℕ, ◌+◌, List, map}
use Rattle.std.specs.List.{flat_map, range_with_len}
use Rattle.serializability.specs.Polygraph.{Edge}

-- the pairs of nodes 0 to n, by the first and then the second
unfoldable pub all_pairs : ℕ → List Edge
all_pairs n = flat_map (λ u. map (λ v. (u, v)) (range_with_len 0 (n + 1)))
    (range_with_len 0 (n + 1))
