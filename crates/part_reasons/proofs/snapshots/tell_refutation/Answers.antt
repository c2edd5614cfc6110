use Rattle.part_reasons.proofs.Prelude.{map, ap, ◌∙◌, view, rows_of}
use Rattle.tell_points.specs.Names.{refutation_name}
use Rattle.tell_points.specs.Told.{refutation_text}
use Rattle.part_reasons.proofs.snapshots.tell_refutation.Goals as goal

pub returns : goal.returns
returns c =
    let part = map view c.args.refuted.now.part.items in
    let refutation = c.args.refutation.now in
    let rows = rows_of c.in_ok-places.places in
    record {
      told = record {
        refutation = refutation;
        right = c.requires.right;
        text_is = c.in_ok-text.ensures.text ∙ ap (λ sessions. refutation_text rows (map view sessions) refutation) c.deref.ensures.value ∙ ap (λ table. refutation_text table part refutation) c.in_ok-places.ensures.rows;
        name_is = c.in_ok-known_as.ensures.text ∙ c.refutation_name.ensures.name ∙ ap (λ sessions. refutation_name (map view sessions) refutation) c.deref-2.ensures.value;
      };
    }
