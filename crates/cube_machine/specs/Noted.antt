-- What is noted of a seat's cube.
use Rattle.std.specs.Prelude.{◌≡◌, ℕ, ◌<◌, List, [], ◌∷◌, false, Some, length, slice_get}
use Rattle.pruning_laws.specs.declared.side.Side.{Side}
use Rattle.cube_laws.specs.Cubes.{Cube, is_decided}
use Rattle.cube_laws.specs.State.{Node}
use Rattle.cube_machine.specs.Flags.{flag_at, is_odd}
use Rattle.cube_machine.specs.Ways.{cube_in}
use Rattle.cube_machine.specs.declared.decided.Decided.{Decided}

-- no choice is decided twice
unfoldable pub IsOnce : Cube → Type 0
IsOnce [] = Unit {0}
IsOnce (x ∷ cube) = (is_decided cube x.0 ≡ false) × IsOnce cube

-- by no cube
pub record AreOnce (nodes : List Node) : Type 0 where
  pub each : (k : ℕ) → IsOnce (cube_in nodes k)

-- of each choice that has a place, for which sides the cube of the node decides it
pub record IsNoted (nodes : List Node) (d : Decided) : Type 0 where
  pub within : d.node < length nodes
  pub each : (c : ℕ) (side : Side) → c < length d.flags.items
      → flag_at d.flags.items c side ≡ is_odd (cube_in nodes d.node) c side

-- each of them, and each has a place for so many choices
pub record AreNoted (nodes : List Node) (count : ℕ) (table : List Decided) : Type 0 where
  pub noted : (k : ℕ) (d : Decided) → slice_get table k ≡ Some d → IsNoted nodes d
  pub wide : (k : ℕ) (d : Decided) → slice_get table k ≡ Some d → length d.flags.items ≡ count
