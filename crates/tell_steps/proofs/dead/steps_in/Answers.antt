use Rattle.tell_steps.proofs.Prelude.{◌∙◌, IfOk-weaker}
use Rattle.tell_steps.proofs.Ledgers.{steps_of}
use Rattle.tell_steps.proofs.dead.steps_in.Goals as goal

pub returns : goal.returns
returns c =
    let of = steps_of c.args.chains.now c.args.entries.now c.requires.clean c.requires.entries c.deref.result.now (c.deref.ensures.value ∙ c.in_ok-orders.ensures.list) in
    record {
      kept = IfOk-weaker c.steps_from.result _ _ (λ made is. (of made.items is).1) c.steps_from.ensures.steps;
      built = IfOk-weaker c.steps_from.result _ _ (λ made is. (of made.items is).0) c.steps_from.ensures.steps;
    }
