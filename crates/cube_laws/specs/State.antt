-- What contracts see of the machine.
use Rattle.std.specs.Prelude.{ℕ, List, [], ◌∷◌}
use Rattle.serializability.specs.Polygraph.{Polygraph}
use Rattle.cube_laws.specs.Cubes.{Cube}
use Rattle.cube_laws.specs.declared.messages.CubeState.{CubeState}
use Rattle.cube_laws.specs.declared.messages.CubeState.TheVariants.{Open}

-- a node of the tree: the number of its parent, which of node 0 is 0, its cube, and what is noted
-- of it
pub record Node : Type 0 where
  pub parent : ℕ
  pub cube : Cube
  pub mark : CubeState

-- the polygraph that is searched, the nodes of the tree by their numbers, how many of them are
-- closed, and how many may be
pub record State : Type 0 where
  pub polygraph : Polygraph
  pub nodes : List Node
  pub closed : ℕ
  pub budget : ℕ

abbrev pub root : Node
root = record { parent = 0; cube = []; mark = Open }

-- node 0, open, with no choice decided
abbrev pub opening_state : Polygraph → ℕ → State
opening_state p budget = record { polygraph = p; nodes = root ∷ []; closed = 0; budget = budget }
