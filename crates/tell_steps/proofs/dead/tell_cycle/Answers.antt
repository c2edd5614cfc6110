use Rattle.tell_steps.proofs.Prelude.{◌≡◌, ◌∷◌, [], Some, ◌∙◌, ap, refl, subst, IfSome_then, IfOk-weaker, without_runs, Round, orders_of, RoundView, round_view, IsTold, cycle_round}
use Rattle.tell_steps.proofs.Telling.{none_then, cycle_is, cycle_stands}
use Rattle.tell_steps.proofs.dead.tell_cycle.Goals as goal

pub returns : goal.returns
returns c =
    let ss = c.args.chains.now in
    let cycle = c.args.cycle.now in
    let line = c.in_ok-line.line in
    let round : Round = record { before = c.new.result; decided = c.new-2.result; line = Some line } in
    let is : round_view round ≡ cycle_round (without_runs ss cycle) =
    cycle_is round line (without_runs ss cycle) c.new.ensures.items c.new-2.ensures.items refl (c.in_ok-line.ensures ∙ ap (λ s. without_runs s cycle) c.history.ensures.history) in
    record {
      told = IfOk-weaker c.tell.result _ _ (λ o h. IfSome_then o h (λ items t. record { line = without_runs ss cycle; told = subst (λ (r : RoundView). IsTold ss (r ∷ []) items.items) is t })) c.tell.ensures.told;
      none = IfOk-weaker c.tell.result _ _ (λ o h. none_then o _ _ (λ no b closed. no b (cycle_stands ss (orders_of c.args.steps.items) cycle round is closed)) h) c.tell.ensures.none;
    }
