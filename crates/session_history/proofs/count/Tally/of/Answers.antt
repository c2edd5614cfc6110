use Rattle.session_history.proofs.Prelude.{List, map, take, sym, refl, subst, Transaction, ClientSession, view, txns_in, IsTally}
use Rattle.session_history.proofs.Stepping.{step_in}
use Rattle.session_history.proofs.count.Tally.of.Goals as goal

pub loop-session-preserved : goal.loop-session-preserved
loop-session-preserved c =
    let i = c.loop-session.session-index in
    let sessions = c.args.sessions.now in
    let txns_of : ClientSession → List Transaction = λ s. s.txns in
    let P : List Transaction → Type 0 = λ ts. IsTally ts c.with_session-tally.result in
    subst P (sym (step_in txns_of view sessions sessions i c.session-item.result refl c.loop-session-test.true c.session-item.is))
    (c.with_session-tally.ensures (txns_in (map view (take i sessions))) c.loop-session.invariant)
