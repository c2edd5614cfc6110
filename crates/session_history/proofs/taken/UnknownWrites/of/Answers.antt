use Rattle.session_history.proofs.Prelude.{List, map, take, sym, refl, subst, ClientSession, view, WriteAt, unknown_writes_of, unknown_writes, FindsLast}
use Rattle.session_history.proofs.Stepping.{step_in}
use Rattle.session_history.proofs.taken.UnknownWrites.of.Goals as goal

pub loop-session-preserved : goal.loop-session-preserved
loop-session-preserved c =
    let i = c.loop-session.session-index in
    let sessions = c.args.sessions.now in
    let writes : ClientSession → List WriteAt = λ s. unknown_writes_of s s.txns in
    let P : List WriteAt → Type 0 = λ xs. FindsLast xs c.add_session.new.self in
    subst P (sym (step_in writes view sessions sessions i c.session-item.result refl c.loop-session-test.true c.session-item.is))
    (c.in_ok-add_session.ensures (unknown_writes (map view (take i sessions))) c.loop-session.invariant)
