-- Flags of the sides that a cube decides.
use Rattle.std.specs.Prelude.{ℕ, ◌==◌, ◌&&◌, ◌||◌, not, Bool, true, false, List, [], ◌∷◌, slice_get}
use Rattle.std.specs.Option.{option_map_or}
use Rattle.pruning_laws.specs.declared.side.Side.{Side}
use Rattle.pruning_laws.specs.declared.side.Side.TheVariants.{One, Two}
use Rattle.pruning_laws.specs.Ledger.{same_side}
use Rattle.cube_laws.specs.Cubes.{Cube}
use Rattle.cube_machine.specs.declared.decided.SideFlags.{SideFlags}

-- one of both, and not both
abbrev pub either : Bool → Bool → Bool
either true b = not b
either false b = b

abbrev pub flag_of : SideFlags → Side → Bool
flag_of f One = f.one
flag_of f Two = f.two

-- whether the choice is flagged for this side; past the last choice there is none
abbrev pub flag_at : List SideFlags → ℕ → Side → Bool
flag_at flags c side = option_map_or (λ f. flag_of f side) (slice_get flags c) false

-- whether it is flagged for either side
abbrev pub is_flagged : List SideFlags → ℕ → Bool
is_flagged flags c = option_map_or (λ f. f.one || f.two) (slice_get flags c) false

-- whether a cube has a decision an odd number of times
unfoldable pub is_odd : Cube → ℕ → Side → Bool
is_odd [] c side = false
is_odd (x ∷ cube) c side = either ((x.0 == c) && same_side x.1 side) (is_odd cube c side)
