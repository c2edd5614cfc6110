-- What a strategy sees of a cube.
use Rattle.std.specs.Prelude.{ℕ, List, Bool, false, Option, Some, None, is_some, is_none, length, replicate, slice_get, slice_set}
use Rattle.std.specs.Option.{option_map_or}
use Rattle.std.specs.List.{filter}
use Rattle.serializability.specs.Polygraph.{Edge, Polygraph}
use Rattle.reach_laws.specs.Reach.{Graph}
use Rattle.pruning_laws.specs.declared.side.Side.{Side}
use Rattle.pruning_laws.specs.Forced.{Sides, edges_with}
use Rattle.pruning_laws.specs.Ledger.{same_side}

-- a polygraph, and of each of its choices the side that is decided, or none where it is open
pub record View : Type 0 where
  pub polygraph : Polygraph
  pub sides : List (Option Side)

abbrev pub is_open_in : View → ℕ → Bool
is_open_in v c = option_map_or is_none (slice_get v.sides c) false

-- how many choices are decided
abbrev pub depth_of : View → ℕ
depth_of v = length (filter is_some v.sides)

-- the sides that are decided
abbrev pub chosen : View → Sides
chosen v c side = option_map_or (λ o. option_map_or (λ s. same_side s side) o false)
    (slice_get v.sides c) false

-- the known edges and those of the decided sides
abbrev pub edges_in : View → List Edge
edges_in v = edges_with v.polygraph (chosen v)

-- the same as a graph
abbrev pub graph_in : View → Graph
graph_in v = record { nodes = v.polygraph.nodes; edges = edges_in v }

-- the polygraph, with each choice open
abbrev pub opened : Polygraph → View
opened p = record { polygraph = p; sides = replicate (length p.choices) None }

-- a choice is decided
abbrev pub decided : View → ℕ → Side → View
decided v c side = record { polygraph = v.polygraph; sides = slice_set v.sides c (Some side) }
