use Rattle.session_history.proofs.Prelude.{slice_index}
use Rattle.session_history.proofs.Writing.{lasts_more}
use Rattle.session_history.proofs.writes.Writes.keep_lasts.Goals as goal

pub loop-event-preserved : goal.loop-event-preserved
loop-event-preserved c =
    lasts_more c.args.events.now c.loop-event.event-index (slice_index c.args.self.now.lasts.items) (slice_index c.loop-event.lasts.items) (slice_index c.keep_last.new.lasts.items)
    c.loop-event-test.true c.loop-event.invariant c.in_ok-keep_last.ensures
