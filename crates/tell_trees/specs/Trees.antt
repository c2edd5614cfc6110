-- How a refutation tree is told, depth first.
use Rattle.std.specs.Prelude.{◌≡◌, ℕ, nat_lt, min, if◌then◌else◌, List, [], ◌∷◌, None}
use Rattle.session_log.specs.Text.{ClientSession}
use Rattle.serializability.specs.Polygraph.{Choice}
use Rattle.log_definitions.specs.Numbers.{log_of}
use Rattle.cube_laws.specs.declared.tree.TreeNode.{TreeNode}
use Rattle.tell_reasons.specs.declared.why.ChainOrder.{ChainOrder}
use Rattle.tell_steps.specs.Rounds.{RoundView, IsTold}
use Rattle.tell_steps.specs.declared.item.Item.{Item}
use Rattle.tell_steps.specs.declared.item.Item.TheVariants as item
use Rattle.tell_trees.specs.Orders.{AreOrdersOf}
use Rattle.tell_trees.specs.Visits.{leaf_count, IsVisited}
use Rattle.tell_trees.specs.declared.TheConstants.{MAX_LEAVES}

-- how many leaves the tree has, where it has more than one
abbrev pub leaves_items : ℕ → List Item
leaves_items count = if nat_lt 1 count then item.Leaves count ∷ [] else []

abbrev pub leaves_round : ℕ → RoundView
leaves_round count = record { before = leaves_items count; decided = []; line = None }

-- how many leaves there are, where there is more than one, and all nodes that are visited
pub record AreVisits (ss : List ClientSession) (orders : List ChainOrder) (nodes : List TreeNode)
    (rounds : List RoundView) : Type 0 where
  pub last : ℕ
  pub nodes_told : List RoundView
  pub whole : rounds ≡ leaves_round (leaf_count nodes) ∷ nodes_told
  pub visited : IsVisited ss orders nodes 0 [] 0 last nodes_told

-- of so many leaves so many are told: all of them, up to the greatest number
abbrev pub told_leaves : ℕ → ℕ
told_leaves count = min MAX_LEAVES count

-- Of a tree with these nodes, whose choices are between these orders of chains and their turned
-- ones: steps, each of which an edge of a cycle or of a later step's walk stands by; how many leaves
-- it has, where it has more than one; and then its nodes, of which as many leaves are told as are told
-- of so many.
pub record IsTreeTold (ss : List ClientSession) (choices : List Choice) (nodes : List TreeNode)
    (items : List Item) : Type 0 where
  pub orders : List ChainOrder
  pub sides : AreOrdersOf (log_of ss) choices orders
  pub rounds : List RoundView
  pub visits : AreVisits ss orders nodes rounds
  pub count : visits.last ≡ told_leaves (leaf_count nodes)
  pub told : IsTold ss rounds items
