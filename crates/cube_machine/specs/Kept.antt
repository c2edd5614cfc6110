-- What the type of the tree keeps.
use Rattle.std.specs.Prelude.{◌≡◌, ℕ, ◌+◌, ◌<◌, ◌||◌, not, Bool, if◌then◌else◌, List, [], ◌∷◌, Option, Some, length, slice_get, slice_index}
use Rattle.std.specs.List.{list_any}
use Rattle.cube_laws.specs.Steps.{is_open, is_held, is_solved}
use Rattle.cube_laws.specs.declared.messages.CubeState.{CubeState}
use Rattle.cube_laws.specs.declared.messages.CubeState.TheVariants.{Held}
use Rattle.cube_machine.specs.declared.origin.Origin.{Origin}
use Rattle.cube_machine.specs.declared.node.TreeNode.{TreeNode}

-- neither open nor held
abbrev pub is_closed : CubeState → Bool
is_closed m = not (is_open m || is_held m)

pub record IsAscending (numbers : List ℕ) : Type 0 where
  pub each : (j k : ℕ) → j < k → k < length numbers → slice_index numbers j < slice_index numbers k

-- the numbers of the open nodes, where these are numbered from k
unfoldable pub open_from : ℕ → List TreeNode → List ℕ
open_from k [] = []
open_from k (x ∷ xs) = if is_open x.mark then k ∷ open_from (k + 1) xs else open_from (k + 1) xs

-- the node has this mark
pub record HasMark (nodes : List TreeNode) (k : ℕ) (m : CubeState) : Type 0 where
  pub node : TreeNode
  pub at : slice_get nodes k ≡ Some node
  pub marked : node.mark ≡ m

-- Each node but those without an origin comes after its parent. The open nodes are listed, each
-- seat's slot has the node that it holds, if any, and it is noted whether one is solved.
pub record IsTree (nodes : List TreeNode) (numbers : List ℕ) (held : List (Option ℕ))
    (solved : Bool) : Type 0 where
  pub ordered : (k : ℕ) (x : TreeNode) (o : Origin) → slice_get nodes k ≡ Some x → x.origin ≡ Some o
      → o.parent < k
  pub listed : numbers ≡ open_from 0 nodes
  pub seats : length held ≡ 17
  pub holds : (seat k : ℕ) → slice_get held seat ≡ Some (Some k) → HasMark nodes k (Held seat)
  pub slotted : (seat k : ℕ) → HasMark nodes k (Held seat) → slice_get held seat ≡ Some (Some k)
  pub found : solved ≡ list_any (λ x. is_solved x.mark) nodes
