use Rattle.long_reading.proofs.Prelude.{arith, view, session_lines, Session}
use Rattle.long_reading.proofs.Stating.{room_for, one_more, log_length, takes_sessions}
use Rattle.long_reading.proofs.stated.Statements.of.Goals as goal

pub add_session-requires : goal.add_session-requires
add_session-requires c =
    let room = room_for (λ (s : Session). session_lines (view s)) c.args.sessions.now c.loop-session.session-index c.session-item.result c.loop-session-test.true c.session-item.is in
    omega (arith, room, log_length c.args.sessions.now, c.loop-session.invariant.line, c.new-all.ensures.line, c.requires)

pub loop-session-preserved : goal.loop-session-preserved
loop-session-preserved c =
    one_more (λ (s : Session). session_lines (view s)) c.new-all.result c.loop-session.all c.add_session.new.self c.args.sessions.now c.loop-session.session-index c.session-item.result c.loop-session-test.true c.session-item.is c.loop-session.invariant c.in_ok-add_session.ensures

pub returns-clause-sessions : goal.returns-clause-sessions
returns-clause-sessions c =
    (takes_sessions c.new-all.result c.loop-session.all c.args.first c.args.sessions.now c.loop-session.session-index c.new-all.ensures.line c.new-all.ensures.sessions c.new-all.ensures.writes c.loop-session-test.false c.loop-session.invariant).0

pub returns-clause-writes : goal.returns-clause-writes
returns-clause-writes c =
    (takes_sessions c.new-all.result c.loop-session.all c.args.first c.args.sessions.now c.loop-session.session-index c.new-all.ensures.line c.new-all.ensures.sessions c.new-all.ensures.writes c.loop-session-test.false c.loop-session.invariant).1
