use Rattle.branching.proofs.Prelude.{◌<◌, List, Option, length, sym, ap, ◌∙◌, subst, arith, Side, AreMarks, Polygraph, view_of}
use Rattle.branching.proofs.Opens.{open_within}
use Rattle.branching.proofs.Views.{choice_read, open_in_view, held_decided, sided_decided}
use Rattle.branching.proofs.view.CubeView.decide.Goals as goal

pub invariant_of-self : goal.invariant_of-self
invariant_of-self c =
    let p = c.self.inside.reduced.now.poly in
    let v = view_of c.self.inside in
    let number = c.args.choice in
    let free = open_in_view v c.args.self.now number c.self.view_is c.requires.open in
    let lt = open_within v.sides number free in
    let sided = c.self.invariant.view.sided in
    let within : number < length p.choices = omega (arith, lt, sided) in
    let at = choice_read c.choices-choices.result.now p.choices c.get.result number c.index-choices-get.result (c.choices-choices.ensures.choices ∙ ap (λ (q : Polygraph). q.choices) c.poly.ensures.poly) c.get.ensures.value within c.index-choices-get.is in
    record {
      counted = c.self.invariant.counted;
      view = record { sided = sided_decided c.self.inside.sides c.decide.new.self number (length p.choices) c.args.side c.decide.ensures.decided sided; whole = c.self.invariant.view.whole };
      graph = held_decided v number c.args.side c.decide.new.self c.index-choices-get.result c.self.inside.graph c.add_edges.new.graph c.edges-edges.result.now c.decide.ensures.decided at free c.edges-edges.ensures c.self.invariant.graph c.add_edges.ensures.edges;
      rows = c.add_edges.ensures.rows;
      marks =
          let added = c.add_edges.ensures.marks p.nodes p.choices v.sides sided c.self.invariant.marks in
          let edges = c.add_edges.new.graph.edges in
          subst (λ (l : List (Option Side)). AreMarks p.nodes p.choices l edges c.remove.new.self) (sym c.decide.ensures.decided)
          (c.remove.ensures.removes.each p.nodes p.choices v.sides edges c.args.side lt added);
    }
