-- Cubes: the choices that are decided on the way to a node of a search tree, each with its side.
use Rattle.std.specs.Prelude.{ℕ, ◌==◌, List, Bool}
use Rattle.std.specs.List.{list_any}
use Rattle.serializability.specs.Polygraph.{Edge, Polygraph}
use Rattle.pruning_laws.specs.Forced.{edges_with}
use Rattle.pruning_laws.specs.Ledger.{Entry, sides_in}

-- decided choices with their sides, the newest first
abbrev pub Cube : Type 0
Cube = List Entry

abbrev pub is_decided : Cube → ℕ → Bool
is_decided cube c = list_any (λ e. e.0 == c) cube

-- the known edges and those of the cube's sides
abbrev pub edges_under : Polygraph → Cube → List Edge
edges_under p cube = edges_with p (sides_in cube)
