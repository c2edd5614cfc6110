use Rattle.known_outcomes.proofs.Counted.{each_known}
use Rattle.known_outcomes.proofs.count.unknown_in.Goals as goal

pub ends_unknown-requires : goal.ends_unknown-requires
ends_unknown-requires c = each_known c.args.sessions.now c.loop-session.session-index c.session-item.result c.loop-session-test.true c.session-item.is c.requires
