-- What the type of the machine keeps.
use Rattle.std.specs.Prelude.{◌≡◌, ℕ, ◌+◌, ◌*◌, ◌≤◌, List, length, Vec}
use Rattle.std.specs.declared.alloc.Global.{Global}
use Rattle.serializability.specs.Polygraph.{Polygraph}
use Rattle.reach_laws.specs.Reach.{Graph}
use Rattle.side_edges.specs.Listed.{HasSides}
use Rattle.side_edges.specs.declared.SideEdge.{SideEdge}
use Rattle.cube_machine.specs.Growth.{Growth}
use Rattle.cube_machine.specs.Noted.{AreOnce, AreNoted}
use Rattle.cube_machine.specs.declared.decided.Decided.{Decided}
use Rattle.cube_machine.specs.declared.budget.TheConstants.{MAX_BUDGET}

-- There is room for the nodes that the budget allows, the graph is one of the polygraph's nodes,
-- the edges of all sides are listed, no cube decides a choice twice, and of each seat's cube it is
-- noted what it decides.
pub record IsMachine (p : Polygraph) (tree : Growth) (closed budget : ℕ) (graph : Graph)
    (lists : List (Vec SideEdge Global)) (table : List Decided) : Type 0 where
  pub small : length tree.nodes ≤ 2 * closed + 1
  pub roomy : 2 * budget + 1 ≤ tree.room
  pub counted : closed ≤ budget
  pub few : budget ≤ MAX_BUDGET
  pub alike : graph.nodes ≡ p.nodes
  pub listed : HasSides p.choices lists
  pub once : AreOnce tree.nodes
  pub seats : length table ≡ 17
  pub noted : AreNoted tree.nodes (length p.choices) table
