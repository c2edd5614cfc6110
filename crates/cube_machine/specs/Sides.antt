-- The edges of a cube's sides.
use Rattle.std.specs.Prelude.{◌≡◌, ℕ, List, [], ◌∷◌, ◌++◌, slice_get}
use Rattle.std.specs.Option.{option_map_or}
use Rattle.serializability.specs.Polygraph.{Edge, Polygraph}
use Rattle.pruning_laws.specs.declared.side.Side.{Side}
use Rattle.pruning_laws.specs.Forced.{edges_of}
use Rattle.known_graph.specs.Tests.{has_edge}
use Rattle.cube_laws.specs.Cubes.{Cube}

-- the edges of a side, and none where there is no such choice
abbrev pub side_in : Polygraph → ℕ → Side → List Edge
side_in p c side = option_map_or (λ h. edges_of h side) (slice_get p.choices c) []

-- the edges of the cube's sides, the newest first
unfoldable pub cube_edges : Polygraph → Cube → List Edge
cube_edges p [] = []
cube_edges p (x ∷ cube) = side_in p x.0 x.1 ++ cube_edges p cube

-- both lists have the same edges
pub record HasEdges (now edges : List Edge) : Type 0 where
  pub same : (e : Edge) → has_edge now e ≡ has_edge edges e
