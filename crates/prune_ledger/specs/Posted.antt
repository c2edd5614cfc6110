-- What contracts see of a post.
use Rattle.std.specs.Prelude.{ℕ, List}
use Rattle.serializability.specs.Polygraph.{Edge}
use Rattle.pruning_laws.specs.declared.side.Side.{Side}

-- a side of a choice, an edge of it, and the nodes of a walk against the edge, both ends included
pub record Posted : Type 0 where
  pub choice : ℕ
  pub side : Side
  pub edge : Edge
  pub walk : List ℕ
