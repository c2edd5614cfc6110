-- The sides that are decided, as they are held.
use Rattle.std.specs.Prelude.{◌≡◌, is_some, length}
use Rattle.std.specs.List.{filter}
use Rattle.branching.specs.Opens.{AreBits}
use Rattle.branching.specs.declared.sides.Sides.TheInside.{Inside}

-- the bits are those of the open choices, and the decided ones are counted
pub record AreHeld (s : Inside) : Type 0 where
  pub bits : AreBits s.sides.items s.open.items
  pub decided : s.decided ≡ length (filter is_some s.sides.items)
