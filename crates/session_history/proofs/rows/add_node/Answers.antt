use Rattle.session_history.proofs.Prelude.{◌∙◌, ap, sym, take, get_or, ◌++◌, ◌∷◌, [], take_more, take_all, row_after}
use Rattle.serializability.specs.declared.event.Event.TheVariants.{Read}
use Rattle.session_history.proofs.KeyRows.{rows_same}
use Rattle.session_history.proofs.rows.add_node.Goals as goal

pub loop-event-preserved : goal.loop-event-preserved
loop-event-preserved c =
    let i = c.loop-event.event-index in
    let events = c.args.events.now in
    let v = c.args.node in
    record {
      count = c.enter.ensures.count ∙ c.loop-event.invariant.count;
      rows = λ keys f below h.
          rows_same keys (λ x. row_after (f x) x v (take i events ++ get_or events i (Read 0 0) ∷ [])) _ _
          (λ x _. ap (row_after (f x) x v) (sym (take_more events i (Read 0 0) c.loop-event-test.true)))
          (c.in_ok-enter.ensures.entered keys f (take i events) below (c.loop-event.invariant.rows keys f below h));
    }

pub returns : goal.returns
returns c = λ keys f below h.
    rows_same keys _ _ _ (λ x _. ap (row_after (f x) x c.args.node) (take_all c.loop-event.event-index c.args.events.now c.loop-event-test.false))
    (c.loop-event.invariant.rows keys f below h)
