-- A view that is held with its edges.
use Rattle.std.specs.Prelude.{◌≡◌, ◌↔◌, length, map}
use Rattle.std.specs.List.{Contains}
use Rattle.serializability.specs.Polygraph.{Edge}
use Rattle.reach_laws.specs.Reach.{Graph}
use Rattle.reach_rows.specs.ReachRows.{AreRowsOf}
use Rattle.prune_ledger.specs.Runs.{IsWhole}
use Rattle.branching.specs.View.{View, edges_in}
use Rattle.branching.specs.Picks.{size_of}
use Rattle.branching.specs.Markings.{AreMarks}
use Rattle.branching.specs.declared.view.CubeView.TheInside.{Inside}

-- each choice is open or has a side, and the polygraph is whole
pub record IsView (v : View) : Type 0 where
  pub sided : length v.sides ≡ length v.polygraph.choices
  pub whole : IsWhole v.polygraph

-- the known edges, and those of the decided sides
pub record AreEdgesOf (v : View) (g : Graph) : Type 0 where
  pub nodes : g.nodes ≡ v.polygraph.nodes
  pub edges : (e : Edge) → (Contains g.edges e ↔ Contains (edges_in v) e)

abbrev pub view_of : Inside → View
view_of k = record { polygraph = k.reduced.now.poly; sides = k.sides }

pub record IsHeld (k : Inside) : Type 0 where
  pub view : IsView (view_of k)
  pub counted : k.counts ≡ map size_of k.reduced.now.poly.choices
  pub graph : AreEdgesOf (view_of k) k.graph
  pub rows : AreRowsOf k.rows k.graph
  pub marks : AreMarks k.reduced.now.poly.nodes k.reduced.now.poly.choices k.sides k.graph.edges
      k.marks
