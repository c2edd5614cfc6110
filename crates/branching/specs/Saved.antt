-- A view that was saved with its edges.
use Rattle.reach_rows.specs.ReachRows.{AreRowsOf}
use Rattle.branching.specs.View.{View}
use Rattle.branching.specs.Markings.{AreSaved}
use Rattle.branching.specs.Held.{IsView, AreEdgesOf}
use Rattle.branching.specs.declared.view.SavedView.TheInside.{Inside}

abbrev pub saved_view : Inside → View
saved_view k = record { polygraph = k.reduced.now.poly; sides = k.sides }

pub record IsSaved (k : Inside) : Type 0 where
  pub view : IsView (saved_view k)
  pub graph : AreEdgesOf (saved_view k) k.graph
  pub rows : AreRowsOf k.rows k.graph
  pub marks : AreSaved k.reduced.now.poly.choices k.sides k.graph.edges k.marks
