-- Cubes as the ways up a tree.
use Rattle.std.specs.Prelude.{◌≡◌, ℕ, ◌<◌, List, [], ◌∷◌, ◌++◌, Option, None, Some, slice_get, slice_index_or}
use Rattle.std.specs.Option.{option_map_or}
use Rattle.cube_laws.specs.Cubes.{Cube}
use Rattle.cube_laws.specs.State.{Node}
use Rattle.cube_machine.specs.declared.origin.Origin.{Origin}
use Rattle.cube_machine.specs.declared.node.TreeNode.{TreeNode}

-- the cube of a node that was led to so, where these are the cubes of the nodes before it
abbrev pub cube_of : List Cube → Option Origin → Cube
cube_of before None = []
cube_of before (Some o) = (o.choice, o.side) ∷ slice_index_or before o.parent []

-- these cubes, and then those of the nodes
unfoldable pub cubes_after : List Cube → List TreeNode → List Cube
cubes_after before [] = before
cubes_after before (x ∷ xs) = cubes_after (before ++ cube_of before x.origin ∷ []) xs

abbrev pub parent_of : Option Origin → ℕ
parent_of None = 0
parent_of (Some o) = o.parent

-- the nodes with these cubes
unfoldable pub nodes_with : List Cube → List TreeNode → List Node
nodes_with cubes [] = []
nodes_with [] (x ∷ xs) = []
nodes_with (c ∷ cs) (x ∷ xs) = record { parent = parent_of x.origin; cube = c; mark = x.mark }
    ∷ nodes_with cs xs

-- the nodes that are kept so
unfoldable pub nodes_of : List TreeNode → List Node
nodes_of xs = nodes_with (cubes_after [] xs) xs

-- the cube of a node, and of no choice where there is no such node
abbrev pub cube_in : List Node → ℕ → Cube
cube_in nodes id = option_map_or (λ x. x.cube) (slice_get nodes id) []

abbrev pub parent_in : List Node → ℕ → ℕ
parent_in nodes id = option_map_or (λ x. x.parent) (slice_get nodes id) 0

-- the node has no choice decided, or it is an earlier node's cube with one choice more
pub record LeadsFrom (nodes : List Node) (id : ℕ) (o : Origin) : Type 0 where
  pub earlier : o.parent < id
  pub from : parent_in nodes id ≡ o.parent
  pub cube : cube_in nodes id ≡ (o.choice, o.side) ∷ cube_in nodes o.parent

abbrev pub IsWay : List Node → ℕ → Option Origin → Type 0
IsWay nodes id None = cube_in nodes id ≡ []
IsWay nodes id (Some o) = LeadsFrom nodes id o
