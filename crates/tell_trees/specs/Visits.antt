-- What is told of the nodes of a tree on the way depth first, one behind the other.
use Rattle.std.specs.Prelude.{◌≡◌, ℕ, ◌+◌, ◌<◌, List, [], ◌∷◌, ◌++◌, Option, None, Some, is_some, count_by, length, slice_get}
use Rattle.session_log.specs.Text.{ClientSession}
use Rattle.serializability.specs.Polygraph.{Polygraph}
use Rattle.pruning_laws.specs.declared.side.Side.TheVariants.{One, Two}
use Rattle.reasons.specs.Runs.{without_runs}
use Rattle.cube_laws.specs.declared.tree.Growth.{Growth}
use Rattle.cube_laws.specs.declared.tree.Growth.TheVariants.{Leaf, Inner}
use Rattle.cube_laws.specs.declared.tree.TreeNode.{TreeNode}
use Rattle.cube_laws.specs.Trees.{IsRefutationTree}
use Rattle.tell_trees.specs.declared.TheConstants.{MAX_LEAVES}
use Rattle.tell_reasons.specs.declared.why.ChainOrder.{ChainOrder}
use Rattle.tell_steps.specs.Rounds.{RoundView}
use Rattle.tell_steps.specs.declared.item.Item.{Item}
use Rattle.tell_steps.specs.declared.item.Item.TheVariants as item
use Rattle.tell_trees.specs.Orders.{order_at}

-- a refutation tree of some polygraph with so many choices
pub record IsTreeOver (choices : ℕ) (nodes : List TreeNode) : Type 0 where
  pub poly : Polygraph
  pub shown : IsRefutationTree poly nodes
  pub count : choices ≡ length poly.choices

-- the cycle of a leaf
abbrev pub cycle_in : Growth → Option (List ℕ)
cycle_in (Leaf line) = Some line
cycle_in (Inner c first second) = None

abbrev pub leaf_count : List TreeNode → ℕ
leaf_count nodes = count_by (λ x. is_some (cycle_in x.growth)) nodes

-- this became of the cube of node i
pub record IsGrown (nodes : List TreeNode) (i : ℕ) (growth : Growth) : Type 0 where
  pub node : TreeNode
  pub here : slice_get nodes i ≡ Some node
  pub is : node.growth ≡ growth

-- the newest of the orders that a cube decides, with its number from 1
abbrev pub decision_items : List ChainOrder → List Item
decision_items [] = []
decision_items (o ∷ above) = item.Decided (length above + 1) o ∷ []

-- what is told of a node itself: the newest of the orders that its cube decides, and this line
abbrev pub round_at : List ChainOrder → Option (List ℕ) → RoundView
round_at decided line = record { before = decision_items decided; decided = decided; line = line }

-- Node i, whose cube decides these orders, behind so many leaves that are told, and with its own, and
-- the nodes below it: a leaf, with its cycle, of which each run of edges of one session is one edge;
-- an inner node and then the nodes below its first and those below its second child; or a node that
-- is left out, with all below it.
pub data IsVisited (ss : List ClientSession) (orders : List ChainOrder) (nodes : List TreeNode)
    : ℕ → List ChainOrder → ℕ → ℕ → List RoundView → Type 0 where
  leaf : (i : ℕ) (decided : List ChainOrder) (n : ℕ) (line : List ℕ)
      → n < MAX_LEAVES → IsGrown nodes i (Leaf line) →
      IsVisited ss orders nodes i decided n (n + 1)
      (round_at decided (Some (without_runs ss line)) ∷ [])
  split : (i : ℕ) (decided : List ChainOrder) (n m k c first second : ℕ) (one two : List RoundView)
      → IsGrown nodes i (Inner c first second) → c < length orders →
      IsVisited ss orders nodes first (order_at orders (c, One) ∷ decided) n m one
      → IsVisited ss orders nodes second (order_at orders (c, Two) ∷ decided) m k two
      → IsVisited ss orders nodes i decided n k (round_at decided None ∷ (one ++ two))
  left_out : (i : ℕ) (decided : List ChainOrder) → IsVisited ss orders nodes i decided
      MAX_LEAVES MAX_LEAVES (round_at decided None ∷ [])
