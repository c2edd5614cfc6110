use Rattle.std.proofs.Common.{◌∙◌, length, sym, ap}
use Rattle.std.specs.Prelude.{slice_get}
use Rattle.std.proofs.lemmas.List.{length-map, length-set}
use Rattle.gather.proofs.Places.{next_at, seen_more, none_found}
use Rattle.gather.proofs.Legal.{kept_more}
use Rattle.gather.proofs.collecting.by_block.Goals as goal

pub loop-step-init : goal.loop-step-init
loop-step-init c = record {
  whole = c.into_iter-step-iterator.ensures.into_iter_gives.0;
  count = ap length c.in_ok-found.ensures ∙ length-map c.args.blocks.now _;
  kept = λ k p e. absurd (none_found c.args.blocks.now k p (ap (λ l. slice_get l k) (sym c.in_ok-found.ensures) ∙ e));
}

pub loop-step-preserved-in-Some-kept_in : goal.loop-step-preserved-in-Some-kept_in
loop-step-preserved-in-Some-kept_in c =
    let seen = c.loop-step.yielded in let i = c.loop-step.invariant in let rest = c.loop-step.step-iterator.rest.items in let more = c.next.new.self.rest.items in let x = c.in-Some.step in let kept = c.in-Some-kept_in.keeping in
    record {
      whole = seen_more seen rest more c.args.history.items x i.whole c.in-Some.ensures.steps.0;
      count = ap length c.place.ensures ∙ length-set c.loop-step.found.items kept.block _ ∙ i.count;
      kept = kept_more c.args.history.items (length seen) x c.loop-step.found.items c.place.new.found.items kept.block kept.parsed i.kept (next_at seen rest more c.args.history.items x i.whole c.in-Some.ensures.steps.0) c.in-Some-kept_in.ensures.0 c.in-Some-kept_in.ensures.1 c.place.ensures;
    }
