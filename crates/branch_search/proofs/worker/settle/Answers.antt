use Rattle.branch_search.proofs.Prelude.{◌≡◌, ◌<◌, IfSome, length, inl, inr, sym, ap, ◌∙◌, subst, Any, first_child, request_after}
use Rattle.branch_search.proofs.Asked.{split_within, asked_after}
use Rattle.branch_search.proofs.worker.settle.Goals as goal

pub first_child-requires-clause-choice : goal.first_child-requires-clause-choice
first_child-requires-clause-choice g c κs within =
    let v = c.args.view.now in
    let strategy = c.args.task.now.strategy.now in
    let laws = g.met.S.Strategy g.world.𝓛 g.world.𝓜 g.world.𝓡 ((λ s x. x), (λ x. x), (λ x. x), λ x. x) in
    subst (λ choice. IfSome choice (λ n. n < length v.sides)) (sym c.split_by-choice.ensures.choice)
    (split_within v (g.S.Strategy.picks strategy v) c.in_ok-event.event (λ n e. laws.picks_open strategy v n e) c.in_ok-event.ensures.decision)

pub returns-in-Closed-clause-asked : goal.returns-in-Closed-clause-asked
returns-in-Closed-clause-asked g c =
    let first = g.S.Strategy.first_of c.args.task.now.strategy.now c.args.view.now in
    let event = c.in_ok-event.event in
    let any : Any ≡ request_after first event c.in_ok-reply.reply = elim c.in-Closed.is [
      | inl closed ↦ ap (λ r. request_after first event r) (sym closed)
      | inr solved ↦ ap (λ r. request_after first event r) (sym solved)
    ] in
    asked_after first c.args.seat.now.calls c.send.new.seat.calls event c.in_ok-reply.reply Any c.in_ok-reply.ensures.called any

pub returns-in-Children-clause-asked : goal.returns-in-Children-clause-asked
returns-in-Children-clause-asked g c =
    let first = g.S.Strategy.first_of c.args.task.now.strategy.now c.args.view.now in
    let event = c.in_ok-event.event in
    asked_after first c.args.seat.now.calls c.send.new.seat.calls event c.in_ok-reply.reply c.first_child.result c.in_ok-reply.ensures.called
    (c.first_child.ensures.child
    ∙ ap (λ choice. first_child first choice c.in-Children.one c.in-Children.two) c.split_by-choice.ensures.choice
    ∙ ap (λ r. request_after first event r) (sym c.in-Children.is))

pub returns-in_default : goal.returns-in_default
returns-in_default g c =
    let first = g.S.Strategy.first_of c.args.task.now.strategy.now c.args.view.now in
    record {
      number = c.give_back.ensures.number ∙ c.send.ensures.number;
      next = c.give_back.ensures.next (g.S.Strategy.picks c.args.task.now.strategy.now c.args.view.now) first;
      asked = c.give_back.ensures.asked first;
    }
