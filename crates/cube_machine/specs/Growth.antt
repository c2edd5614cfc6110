-- What contracts see of the tree in memory.
use Rattle.std.specs.Prelude.{ℕ, ◌+◌, ◌*◌, List}
use Rattle.cube_laws.specs.State.{Node}

-- the nodes by their numbers, and for how many there is room
pub record Growth : Type 0 where
  pub nodes : List Node
  pub room : ℕ

-- how many nodes a tree has at the most, of which the budget allows so many to be closed
abbrev pub most_nodes : ℕ → ℕ
most_nodes budget = 2 * budget + 1
