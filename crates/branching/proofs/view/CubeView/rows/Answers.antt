use Rattle.branching.proofs.Prelude.{subst, AreRowsOf, View, graph_in, view_of}
use Rattle.branching.proofs.Views.{rows_of_view}
use Rattle.branching.proofs.view.CubeView.rows.Goals as goal

pub returns-clause-rows : goal.returns-clause-rows
returns-clause-rows c =
    subst (λ (v : View). AreRowsOf c.self.inside.rows (graph_in v)) c.self.view_is
    (rows_of_view (view_of c.self.inside) c.self.inside.rows c.self.inside.graph c.self.invariant.graph c.self.invariant.rows)
