use Rattle.branching.proofs.Prelude.{ℕ, List, subst, Vec, Global, Graph, AreRowsOf, SideEdge, Keeps, MarksAll}
use Rattle.branching.proofs.Markings.{edge_marked}
use Rattle.branching.proofs.kept_marks.Marks.add_edge.Goals as goal

pub returns-in-Kept-clause-adds : goal.returns-in-Kept-clause-adds
returns-in-Kept-clause-adds c =
    let words = c.mark_refuted.new.marks in
    edge_marked c.args.rows.now c.args.edge c.args.self.now c.in-Kept.kept words c.source.result c.target.result c.in-Kept.is c.source.ensures c.target.ensures
    (subst (λ (l : List ℕ). Keeps l words) c.as_mut_slice-marks.ensures.value c.mark_refuted.ensures.keeps)
    (subst (λ (l : List (Vec SideEdge Global)). (graph : Graph) → AreRowsOf c.args.rows.now graph → MarksAll graph.edges c.source.result c.target.result l words) c.deref.ensures.value c.mark_refuted.ensures.marked)
