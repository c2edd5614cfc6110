use Rattle.branch_search.proofs.Prelude.{◌≡◌, inl, inr, refl, sym, ap, ◌∙◌, Any, request_after}
use Rattle.branch_search.proofs.Asked.{asked_after, ok_always}
use Rattle.branch_search.proofs.worker.take_turn.Goals as goal

pub returns-in-NotOpen-clause-asked : goal.returns-in-NotOpen-clause-asked
returns-in-NotOpen-clause-asked g c =
    let first = g.S.Strategy.first_of c.args.task.now.strategy.now c.args.place.now.view in
    let event = c.event_of.result in
    let any : Any ≡ request_after first event c.in_ok-reply.reply = elim c.in-NotOpen.is [
      | inl not_open ↦ ap (λ r. request_after first event r) (sym not_open)
      | inr none_now ↦ ap (λ r. request_after first event r) (sym none_now)
    ] in
    asked_after first c.args.seat.now.calls c.send.new.seat.calls event c.in_ok-reply.reply Any c.in_ok-reply.ensures.called any

pub returns-else-branch-clause-next : goal.returns-else-branch-clause-next
returns-else-branch-clause-next g c =
    let strategy = c.args.task.now.strategy.now in
    c.give_back.ensures.next (g.S.Strategy.picks strategy c.see.new.view) (g.S.Strategy.first_of strategy c.see.new.view)

pub returns-else-branch-clause-asked : goal.returns-else-branch-clause-asked
returns-else-branch-clause-asked g c = c.give_back.ensures.asked (g.S.Strategy.first_of c.args.task.now.strategy.now c.see.new.view)

pub returns-in_default : goal.returns-in_default
returns-in_default g c =
    let strategy = c.args.task.now.strategy.now in
    let v = c.args.place.now.view in
    let first = g.S.Strategy.first_of strategy v in
    record {
      number = c.give_back-in_default.ensures.number ∙ c.send.ensures.number;
      polygraph = refl;
      kept = ok_always c.give_back-in_default.result c.requires.kept;
      next = c.give_back-in_default.ensures.next (g.S.Strategy.picks strategy v) first;
      asked = c.give_back-in_default.ensures.asked first;
    }
