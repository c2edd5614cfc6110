-- How a tree grows by the steps of a search.
use Rattle.std.specs.Prelude.{ℕ, ◌+◌, List, [], ◌∷◌, ◌++◌, Option, Some, None, if◌then◌else◌, length, slice_get, slice_set}
use Rattle.std.specs.Option.{option_map_or}
use Rattle.pruning_laws.specs.declared.side.Side.{Side}
use Rattle.pruning_laws.specs.declared.side.Side.TheVariants.{One, Two}
use Rattle.cube_laws.specs.declared.messages.CubeEvent.{CubeEvent}
use Rattle.cube_laws.specs.declared.messages.CubeEvent.TheVariants.{Split, Refute}
use Rattle.cube_laws.specs.declared.messages.CubeReply.{CubeReply}
use Rattle.cube_laws.specs.declared.messages.CubeReply.TheVariants.{Cube as Given, Children, Closed, Solved, Released}
use Rattle.cube_laws.specs.Runs.{is_closing}
use Rattle.cube_laws.specs.declared.tree.Growth.{Growth}
use Rattle.cube_laws.specs.declared.tree.Growth.TheVariants.{Leaf, Inner}
use Rattle.cube_laws.specs.declared.tree.TreeNode.{TreeNode}

-- the node that a seat holds after a reply, where it held this one before
abbrev pub held_after : Option ℕ → CubeReply → Option ℕ
held_after old (Given id) = Some id
held_after old (Children a b) = None
held_after old Closed = None
held_after old Solved = None
held_after old Released = None
held_after old _ = old

-- a leaf that holds no cycle yet
abbrev pub bud : Growth
bud = Leaf []

abbrev pub sprout : ℕ → ℕ → Side → TreeNode
sprout id c side = record {
  parent = id;
  decision = Some
      (record { choice = c; side = side });
  growth = bud;
}

abbrev pub with_growth : List TreeNode → ℕ → Growth → List TreeNode
with_growth nodes id growth = option_map_or (λ x. slice_set nodes id (record x { growth = growth }))
    (slice_get nodes id) nodes

-- the nodes after an event that closed this node
abbrev pub closed_with : List TreeNode → ℕ → CubeEvent → List TreeNode
closed_with nodes id (Split c) = with_growth nodes id
    (Inner c (length nodes) (length nodes + 1)) ++ sprout id c One ∷ sprout id c Two ∷ []
closed_with nodes id (Refute line) = with_growth nodes id (Leaf line)
closed_with nodes id _ = nodes

abbrev pub closed_where : List TreeNode → CubeEvent → Option ℕ → List TreeNode
closed_where nodes e None = nodes
closed_where nodes e (Some id) = closed_with nodes id e

-- the nodes after a step of a seat that held this one
unfoldable pub grown : List TreeNode → Option ℕ → CubeEvent → CubeReply → List TreeNode
grown nodes held e r = if is_closing r then closed_where nodes e held else nodes
