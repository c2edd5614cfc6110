use Rattle.session_history.proofs.Prelude.{ap, ◌∙◌, take_all, first_seen, events_of}
use Rattle.session_history.proofs.Seen.{keys_more, events_more}
use Rattle.session_history.proofs.numbers.Numbers.events.Goals as goal

pub loop-op-preserved : goal.loop-op-preserved
loop-op-preserved c =
    let ops = c.args.ops.now in
    let i = c.loop-op.op-index in
    let op = c.op-item.result in
    let old = c.loop-op.self.texts.items in
    let new = c.event.new.self.texts.items in
    record {
      finds = c.in_ok-event.ensures.finds;
      keys = keys_more c.args.self.now.texts.items old new ops i op c.loop-op-test.true c.op-item.is c.loop-op.invariant.keys c.in_ok-event.ensures.keys;
      events = events_more old new ops i op c.loop-op.events.items c.push.new.self.items c.in_ok-event.field-0 c.loop-op-test.true c.op-item.is
          c.in_ok-event.ensures.keys c.loop-op.invariant.events c.in_ok-event.ensures.event c.in_ok-push.ensures.items;
    }

pub returns-clause-events : goal.returns-clause-events
returns-clause-events c = λ later. c.loop-op.invariant.events later ∙ ap (events_of (first_seen c.loop-op.self.texts.items later)) (take_all c.loop-op.op-index c.args.ops.now c.loop-op-test.false)
