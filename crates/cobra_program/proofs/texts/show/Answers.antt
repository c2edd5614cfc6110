use Rattle.std.proofs.Common.{refl, sym, ap, ◌∙◌, string_bytes}
use Rattle.cobra_answers.specs.declared.stop.Stop.TheVariants as stop
use Rattle.cobra_calls.specs.declared.ending.Ending.TheVariants.{Stop}
use Rattle.cobra_calls.specs.Endings.{out_of_memory, status_of, failures_by}
use Rattle.cobra_program.specs.Texts.{is_asked_for, answered, cut_short, refused, by_memory}
use Rattle.cobra_program.proofs.Told.{told_for, text_told}
use Rattle.cobra_program.proofs.texts.show.Goals as goal

pub returns-in_default : goal.returns-in_default
returns-in_default g c = record {
  shown = by_memory (record {
    reads = refl;
    silent = record { bytes = refl; failures = refl };
    ends = record {
      told = told_for _ _ _ c.memory.result out_of_memory c.memory.ensures c.tell_ending.ensures.told;
      code = c.tell_ending.ensures.status ∙ ap status_of c.memory.ensures;
    };
  });
  unread = refl;
}

pub returns-in-Ok-hand_on : goal.returns-in-Ok-hand_on
returns-in-Ok-hand_on g c = record {
  shown = answered c.as_bytes.result.now (ap is_asked_for (sym c.kind.ensures) ∙ sym c.if-is_asked_for.ensures.asked) refl c.in-Ok-hand_on.ensures.told
      c.in-Ok-hand_on.ensures.through c.in-Ok-hand_on.ensures.count refl refl;
  unread = refl;
}

pub returns-then-is_asked_for : goal.returns-then-is_asked_for
returns-then-is_asked_for g c = record {
  shown = cut_short c.as_bytes.result.now (ap is_asked_for (sym c.kind.ensures) ∙ sym c.if-is_asked_for.ensures.asked) refl c.in-Err.ensures.cut
      (c.in-Err.ensures.count ∙ ap (λ e. failures_by (g.O.Sink.failures c.args.world.now.output) e) c.in-Err.ensures.output)
      (record {
        told = told_for _ _ _ c.in-Err.ending (Stop stop.Output) c.in-Err.ensures.output c.tell_ending-in-Err.ensures.told;
        code = c.tell_ending-in-Err.ensures.status ∙ ap status_of c.in-Err.ensures.output;
      });
  unread = refl;
}

pub returns : goal.returns
returns g c = record {
  shown = refused (string_bytes c.in-Ok.shown) (ap is_asked_for (sym c.kind.ensures) ∙ sym c.if-is_asked_for.ensures.asked) refl
      (record { bytes = refl; failures = refl }) (text_told c.tell.result _ _ _ _ c.tell.ensures.told c.tell.ensures.failed c.tell.ensures.broken) refl;
  unread = refl;
}
