use Rattle.branching.proofs.Prelude.{◌≡◌, List, None, length, map, replicate, ap, ◌∙◌, subst, Choice, Polygraph, IsPolygraph, size_of, Graph}
use Rattle.known_graph.specs.Graphs.{IsKnownGraph}
use Rattle.branching.proofs.Markings.{blank_is_right}
use Rattle.polygraph.proofs.Kept.{graph_in as graph_of}
use Rattle.branching.proofs.Views.{held_opened, rows_opened, sided_opened}
use Rattle.branching.proofs.view.open_view.Goals as goal

pub invariant_of-result : goal.invariant_of-result
invariant_of-result c =
    let p = c.args.reduced.now.poly in
    let same = c.poly-poly.ensures.poly in
    let sides = c.in_ok-open.ensures.open ∙ ap (λ (l : List Choice). replicate (length l) None) (c.choices-2.ensures.choices ∙ ap (λ (q : Polygraph). q.choices) same) in
    let graph : c.in_ok-copy.field-0 ≡ graph_of p = c.in_ok-copy.ensures.same ∙ c.known.ensures ∙ ap graph_of same in
    record {
      view = record { sided = sided_opened p c.in_ok-open.field-0 sides; whole = record { choices = subst IsPolygraph same c.nodes-invariant.ensures.polygraph; known = subst (λ (q : Polygraph). IsKnownGraph (graph_of q)) same c.nodes-invariant.ensures.known } };
      counted = c.in_ok-new.ensures.counts ∙ ap (map size_of) (c.choices.ensures.choices ∙ ap (λ (q : Polygraph). q.choices) same);
      graph = held_opened p c.in_ok-open.field-0 c.in_ok-copy.field-0 sides graph;
      rows = rows_opened p c.args.reduced.now.rows c.in_ok-copy-2.field-0 c.in_ok-copy.field-0 (c.in_ok-copy-2.ensures.same ∙ c.rows.ensures.rows) graph c.rows.ensures.reach;
      marks = blank_is_right p c.in_ok-open.field-0 c.in_ok-copy.field-0.edges c.args.marks c.poly-poly.ensures.reduced (ap (λ (g : Graph). g.edges) graph) c.requires.blank;
    }
