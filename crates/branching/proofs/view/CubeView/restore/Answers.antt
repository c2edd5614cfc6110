use Rattle.branching.proofs.Prelude.{◌≡◌, sym, ap, ◌∙◌, subst, arith, Polygraph, View, AreSaved, IsView, AreEdgesOf}
use Rattle.branching.proofs.view.CubeView.restore.Goals as goal

pub invariant_of-self : goal.invariant_of-self
invariant_of-self c =
    let k = c.self.inside in
    let s = c.saved.inside in
    let p = k.reduced.now.poly in
    let same : s.reduced.now.poly ≡ p = ap (λ (v : View). v.polygraph) c.saved.view_is ∙ c.requires.polygraph ∙ sym (ap (λ (v : View). v.polygraph) c.self.view_is) in
    let view : IsView (record { polygraph = p; sides = s.sides }) = subst (λ (q : Polygraph). IsView (record { polygraph = q; sides = s.sides })) same c.saved.invariant.view in
    let count = c.count-count.ensures.count in
    let sided = c.self.invariant.view.sided in
    let other = view.sided in
    rw (c.copy_from.ensures.same, c.copy_from-2.ensures.same, c.copy_from-3.ensures.same)
    (record {
      view = view;
      counted = c.self.invariant.counted;
      graph = subst (λ (q : Polygraph). AreEdgesOf (record { polygraph = q; sides = s.sides }) s.graph) same c.saved.invariant.graph;
      rows = c.saved.invariant.rows;
      marks = c.copy_from-4.ensures.takes.each p.nodes p.choices k.sides s.sides k.graph.edges s.graph.edges (omega (arith, count, sided)) (omega (arith, count, sided, other)) c.self.invariant.marks
          (subst (λ (q : Polygraph). AreSaved q.choices s.sides s.graph.edges s.marks) same c.saved.invariant.marks);
    })
