-- Edges that were added.
use Rattle.std.specs.Prelude.{◌⊎◌, ◌↔◌, List}
use Rattle.std.specs.List.{Contains}
use Rattle.serializability.specs.Polygraph.{Edge}

-- as sets, the edges that there were and the added ones
pub record IsWith (old added new : List Edge) : Type 0 where
  pub each : (e : Edge) → (Contains new e ↔ (Contains old e ⊎ Contains added e))
