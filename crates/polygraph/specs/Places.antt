-- Places of nodes in an order.
use Rattle.std.specs.Prelude.{◌≡◌, ℕ, ◌<◌, ◌≤◌, ◌||◌, nat_lt, Bool, List, ◌∷◌, slice_index}
use Rattle.std.specs.List.{list_all, Contains}
use Rattle.serializability.specs.Replay.{place_of}
use Rattle.serializability.specs.Polygraph.{Edge, Choice}
use Rattle.reach_laws.specs.Reach.{Graph}

-- each of nodes 0 to n has its place in the order behind node 0
pub record ArePlaces (n : ℕ) (order places : List ℕ) : Type 0 where
  pub each : (v : ℕ) → v ≤ n → slice_index places v ≡ place_of (0 ∷ order) v

-- whether an edge leads to a later place
abbrev pub keeps : List ℕ → Edge → Bool
keeps places e = nat_lt (slice_index places e.0) (slice_index places e.1)

-- whether each edge of one side does
abbrev pub keeps_one : List ℕ → Choice → Bool
keeps_one places c = list_all (keeps places) c.one || list_all (keeps places) c.two

-- each edge of the graph does
pub record AreKept (places : List ℕ) (g : Graph) : Type 0 where
  pub each : (u v : ℕ) → Contains g.edges (u, v) → slice_index places u < slice_index places v
