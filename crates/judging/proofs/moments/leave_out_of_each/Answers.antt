use Rattle.judging.proofs.Prelude.{ℕ, List, ◌≡◌, map, get_or, ◌∙◌, subst, refl, Transaction, view, without, session_without, none_changed, one_changed, all_changed}
use Rattle.judging.proofs.moments.leave_out_of_each.Goals as goal

pub loop-session-init : goal.loop-session-init
loop-session-init c = none_changed session_without (map view c.args.sessions.now)

pub loop-session-preserved : goal.loop-session-preserved
loop-session-preserved c =
    let old = get_or c.loop-session.sessions c.loop-session.session-index c.session-item.result in
    let new = c.leave_out_of_session.new.session in
    let P : ℕ → List Transaction → Type 0 = λ n ts. view new ≡ record { number = n; txns = ts } in
    let is : view new ≡ session_without (view old) =
    subst (λ n. P n (map without (view old).txns)) c.leave_out_of_session.ensures.number
    (subst (λ ts. P new.number ts) c.leave_out_of_session.ensures.txns refl) in
    one_changed view session_without c.loop-session.session-index c.loop-session.sessions c.args.sessions.now c.session-item.result new c.loop-session-test.true is c.loop-session.invariant

pub returns : goal.returns
returns c = c.loop-session.invariant ∙ all_changed view session_without c.loop-session.session-index c.args.sessions.now c.loop-session-test.false
