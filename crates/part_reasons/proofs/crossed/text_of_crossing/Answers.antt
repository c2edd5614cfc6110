use Rattle.part_reasons.proofs.Prelude.{◌++◌, ap, ◌∙◌}
use Rattle.tell_reasons.specs.Crossed.{crossing_text}
use Rattle.part_reasons.proofs.crossed.text_of_crossing.Goals as goal

pub returns : goal.returns
returns c = record {
  told = record {
    crossing = c.args.crossing;
    crossed = c.requires.crossed;
    log = c.in_ok-log.log;
    sessions = c.in_ok-log.ensures.history;
    places = c.in_ok-log.ensures.places;
    text_is = c.in_ok-put_crossing.ensures.text ∙ ap (λ l. l ++ crossing_text c.in_ok-log.log c.args.crossing) c.new-text.ensures.items;
  };
}
