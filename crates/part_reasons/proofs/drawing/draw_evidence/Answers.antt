use Rattle.part_reasons.proofs.Prelude.{map, ap, ◌∙◌, view, rows_of, evidence_graph}
use Rattle.part_reasons.proofs.drawing.draw_evidence.Goals as goal

pub returns : goal.returns
returns c =
    let part = map view c.args.refuted.now.part.items in
    let it = c.args.evidence.now in
    let rows = rows_of c.in_ok-places.places in
    record {
      drawn = record {
        evidence = it;
        right = c.requires.right;
        graph_is = c.in_ok-graph.ensures.graph ∙ ap (λ sessions. evidence_graph rows (map view sessions) it) c.deref.ensures.value ∙ ap (λ table. evidence_graph table part it) c.in_ok-places.ensures.rows;
      };
    }
