-- Refutation trees.
use Rattle.std.specs.Prelude.{◌≡◌, ◌⊎◌, ℕ, ◌<◌, List, [], ◌∷◌, ◌++◌, Option, Some, None, true, false, length, slice_get, slice_index_or}
use Rattle.serializability.specs.Polygraph.{Polygraph}
use Rattle.pruning_laws.specs.declared.side.Side.{Side}
use Rattle.pruning_laws.specs.declared.side.Side.TheVariants.{One, Two}
use Rattle.cube_laws.specs.Cubes.{Cube, is_decided, edges_under}
use Rattle.cube_laws.specs.Steps.{is_cycle}
use Rattle.cube_laws.specs.declared.tree.CubeDecision.{CubeDecision}
use Rattle.cube_laws.specs.declared.tree.Growth.TheVariants.{Leaf, Inner}
use Rattle.cube_laws.specs.declared.tree.TreeNode.{TreeNode}

-- a node's cube: what it decides itself, and then its parent's cube
abbrev pub cube_below : Cube → Option CubeDecision → Cube
cube_below cube None = cube
cube_below cube (Some d) = (d.choice, d.side) ∷ cube

-- the cubes of these nodes, after those of the nodes that stand before them
abbrev pub cubes_after : List Cube → List TreeNode → List Cube
cubes_after before [] = before
cubes_after before (x ∷ xs) = cubes_after (before ++ cube_below
    (slice_index_or before x.parent []) x.decision ∷ []) xs

abbrev pub cube_of : List TreeNode → ℕ → Cube
cube_of nodes i = slice_index_or (cubes_after [] nodes) i []

-- node j is a child of node i, by this side of this choice
pub record IsChild (nodes : List TreeNode) (i c : ℕ) (side : Side) (j : ℕ) : Type 0 where
  pub node : TreeNode
  pub here : slice_get nodes j ≡ Some node
  pub later : i < j
  pub parent : node.parent ≡ i
  pub decision : node.decision ≡ Some (record { choice = c; side = side })

-- the choice is one that the cube of node i leaves open, and the node has these two children, for
-- the two sides of the choice
pub record IsSplit (p : Polygraph) (nodes : List TreeNode) (i c first second : ℕ) : Type 0 where
  pub choice : c < length p.choices
  pub undecided : is_decided (cube_of nodes i) c ≡ false
  pub one : IsChild nodes i c One first
  pub two : IsChild nodes i c Two second
  pub only : (j : ℕ) (x : TreeNode) → 0 < j → slice_get nodes j ≡ Some x → x.parent ≡ i
      → (j ≡ first) ⊎ (j ≡ second)

-- a node whose parent stands before it and is split
pub record IsBelow (nodes : List TreeNode) (i : ℕ) (x : TreeNode) : Type 0 where
  pub before : x.parent < i
  pub parent : TreeNode
  pub here : slice_get nodes x.parent ≡ Some parent
  pub choice : ℕ
  pub first : ℕ
  pub second : ℕ
  pub split : parent.growth ≡ Inner choice first second

-- the first node, which decides nothing
pub record IsRoot (nodes : List TreeNode) : Type 0 where
  pub node : TreeNode
  pub here : slice_get nodes 0 ≡ Some node
  pub parent : node.parent ≡ 0
  pub decision : node.decision ≡ None

-- There is at least one node, and the first is the root; each other node's parent stands before it.
-- Each leaf holds a closed walk of at least one edge in the known edges and those of its cube's
-- sides. Each inner node has two children, for the two sides of one choice that its cube leaves
-- open.
pub record IsRefutationTree (p : Polygraph) (nodes : List TreeNode) : Type 0 where
  pub root : IsRoot nodes
  pub below : (i : ℕ) (x : TreeNode) → 0 < i → slice_get nodes i ≡ Some x → IsBelow nodes i x
  pub leaves : (i : ℕ) (x : TreeNode) (line : List ℕ) → slice_get nodes i ≡ Some x
      → x.growth ≡ Leaf line → is_cycle (edges_under p (cube_of nodes i)) line ≡ true
  pub inner : (i : ℕ) (x : TreeNode) (c first second : ℕ) → slice_get nodes i ≡ Some x
      → x.growth ≡ Inner c first second → IsSplit p nodes i c first second
