use Rattle.branching.proofs.view.CubeView.save.Goals as goal

pub invariant_of-result : goal.invariant_of-result
invariant_of-result c =
    let k = c.self.inside in
    let p = k.reduced.now.poly in
    rw (c.in_ok-copy.ensures.same, c.in_ok-copy-2.ensures.same, c.in_ok-copy-3.ensures.same)
    (record {
      view = c.self.invariant.view;
      graph = c.self.invariant.graph;
      rows = c.self.invariant.rows;
      marks = c.in_ok-bits.ensures.saves.each p.nodes p.choices k.sides k.graph.edges c.self.invariant.marks;
    })
