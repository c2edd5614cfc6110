use Rattle.part_reasons.proofs.Prelude.{map, ap, ◌∙◌, view, rows_of, search_graph}
use Rattle.part_reasons.proofs.drawing.boxes_of_part.Goals as goal

pub returns : goal.returns
returns c =
    let part = map view c.args.refuted.now.part.items in
    let words = c.args.words.now in
    let rows = rows_of c.in_ok-places.places in
    record {
      drawn = c.in_ok-graph.ensures.graph ∙ ap (λ sessions. search_graph rows (map view sessions) words) c.deref.ensures.value ∙ ap (λ table. search_graph table part words) c.in_ok-places.ensures.rows;
    }
