use Rattle.reasons.proofs.Prelude.{arith, ap, length, log_of}
use Rattle.reasons.proofs.Overwrites.{least_all}
use Rattle.reasons.proofs.overwritten.least_write.Goals as goal

pub returns : goal.returns
returns c =
    let all = ap length c.events_of-event-items.ensures.events in
    least_all (log_of c.args.history.now) c.args.a c.args.b c.loop-place.place c.loop-place.least (omega (arith, c.loop-place-test.false, all)) c.loop-place.invariant
