use Rattle.branching.proofs.Prelude.{◌≡◌, None, replicate, ap, ◌∙◌, Graph}
use Rattle.branching.proofs.Markings.{blank_is_right}
use Rattle.polygraph.proofs.Kept.{graph_in as graph_of}
use Rattle.branching.proofs.Views.{held_opened, rows_opened, sided_opened}
use Rattle.branching.proofs.view.CubeView.restart.Goals as goal

pub invariant_of-self : goal.invariant_of-self
invariant_of-self c =
    let k = c.self.inside in
    let p = k.reduced.now.poly in
    let sides = c.reopen.ensures.open ∙ ap (λ n. replicate n None) c.self.invariant.view.sided in
    let graph : c.copy_from.new.self ≡ graph_of p = c.copy_from.ensures.same ∙ c.known.ensures ∙ ap graph_of c.poly.ensures.poly in
    record {
      counted = c.self.invariant.counted;
      view = record { sided = sided_opened p c.reopen.new.self sides; whole = c.self.invariant.view.whole };
      graph = held_opened p c.reopen.new.self c.copy_from.new.self sides graph;
      rows = rows_opened p k.reduced.now.rows c.copy_from-2.new.self c.copy_from.new.self (c.copy_from-2.ensures.same ∙ c.rows.ensures.rows) graph c.rows.ensures.reach;
      marks = blank_is_right p c.reopen.new.self c.copy_from.new.self.edges c.clear.new.self c.poly.ensures.reduced (ap (λ (g : Graph). g.edges) graph)
          (c.clear.ensures.clears.each p.nodes p.choices k.sides k.graph.edges c.self.invariant.marks);
    }
