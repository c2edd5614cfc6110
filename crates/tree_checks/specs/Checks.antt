-- Tests of the nodes of a tree.
use Rattle.std.specs.Prelude.{ℕ, ◌==◌, ◌&&◌, ◌||◌, not, nat_lt, List, Bool, false, Option, Some, None, is_none, if◌then◌else◌, length, slice_get}
use Rattle.std.specs.Option.{option_map_or}
use Rattle.serializability.specs.Polygraph.{Edge, Polygraph}
use Rattle.pruning_laws.specs.declared.side.Side.{Side}
use Rattle.pruning_laws.specs.declared.side.Side.TheVariants.{One, Two}
use Rattle.pruning_laws.specs.Ledger.{same_side}
use Rattle.known_graph.specs.Tests.{has_edge}
use Rattle.cube_laws.specs.Cubes.{is_decided, edges_under}
use Rattle.cube_laws.specs.Steps.{is_cycle}
use Rattle.cube_machine.specs.Sides.{side_in}
use Rattle.cube_laws.specs.declared.tree.CubeDecision.{CubeDecision}
use Rattle.cube_laws.specs.declared.tree.Growth.{Growth}
use Rattle.cube_laws.specs.declared.tree.Growth.TheVariants.{Leaf, Inner}
use Rattle.cube_laws.specs.declared.tree.TreeNode.{TreeNode}
use Rattle.cube_laws.specs.Trees.{cube_of}

-- whether a node decides the choice itself, by any side
abbrev pub decides : Option CubeDecision → ℕ → Bool
decides None c = false
decides (Some d) c = d.choice == c

-- whether a node decides this side of the choice itself
abbrev pub decides_side : Option CubeDecision → ℕ → Side → Bool
decides_side None c side = false
decides_side (Some d) c side = (d.choice == c) && same_side d.side side

-- whether the edge is one of the side that a node decides itself
abbrev pub adds : Polygraph → Option CubeDecision → Edge → Bool
adds p None e = false
adds p (Some d) e = has_edge (side_in p d.choice d.side) e

-- whether node j is a child of node i, by this side of this choice
abbrev pub is_child : List TreeNode → ℕ → ℕ → Side → ℕ → Bool
is_child nodes i c side j = nat_lt i j && option_map_or
    (λ x. (x.parent == i) && decides_side x.decision c side) (slice_get nodes j) false

abbrev pub has_child : Growth → ℕ → Bool
has_child (Leaf line) j = false
has_child (Inner c first second) j = (first == j) || (second == j)

-- whether the parent of this node, which is node i, stands before it and names it as a child
abbrev pub is_below : List TreeNode → ℕ → TreeNode → Bool
is_below nodes i x = nat_lt x.parent i && option_map_or (λ y. has_child y.growth i)
    (slice_get nodes x.parent) false

abbrev pub is_root : TreeNode → Bool
is_root x = (x.parent == 0) && is_none x.decision

abbrev pub is_split : Polygraph → List TreeNode → ℕ → ℕ → ℕ → ℕ → Bool
is_split p nodes i c first second = nat_lt c (length p.choices) &&
    (not (is_decided (cube_of nodes i) c) && (is_child nodes i c One first && is_child nodes i c Two
    second))

-- whether node i, of which this became, is refuted or split
abbrev pub is_grown : Polygraph → List TreeNode → ℕ → Growth → Bool
is_grown p nodes i (Leaf line) = is_cycle (edges_under p (cube_of nodes i)) line
is_grown p nodes i (Inner c first second) = is_split p nodes i c first second

-- whether this node, which is node i, has its place and is refuted or split
unfoldable pub is_sound : Polygraph → List TreeNode → ℕ → TreeNode → Bool
is_sound p nodes i x = (if i == 0 then is_root x else is_below nodes i x) && is_grown p nodes i
    x.growth
