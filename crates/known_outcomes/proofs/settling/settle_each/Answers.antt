use Rattle.std.proofs.Common.{ℕ, List, ◌≡◌, map, nat_cmp, get_or, ◌∙◌, ap, subst, refl}
use Rattle.std.specs.BTreeSet.{contains}
use Rattle.session_log.specs.Text.{Transaction, view}
use Rattle.log_definitions.specs.Unknown.{settle}
use Rattle.known_outcomes.proofs.Changed.{none_changed, one_changed, all_changed, session_settled, sessions_settled}
use Rattle.known_outcomes.proofs.settling.settle_each.Goals as goal

pub loop-session-init : goal.loop-session-init
loop-session-init c = none_changed (session_settled (contains nat_cmp c.args.taken.now)) (map view c.args.sessions.now)

pub loop-session-preserved : goal.loop-session-preserved
loop-session-preserved c =
    let chosen = contains nat_cmp c.args.taken.now in
    let old = get_or c.loop-session.sessions c.loop-session.session-index c.session-item.result in
    let new = c.settle_session.new.session in
    let is = c.contains-is_taken.ensures ∙ ap chosen c.from.ensures in
    let P : ℕ → List Transaction → Type 0 = λ n ts. view new ≡ record { number = n; txns = ts } in
    let settled : view new ≡ session_settled chosen (view old) =
    subst (λ n. P n (map (settle (chosen old.number)) (view old).txns)) c.settle_session.ensures.number
    (subst (λ ts. P new.number ts) (c.settle_session.ensures.txns ∙ ap (λ b. map (settle b) (view old).txns) is) refl) in
    one_changed view (session_settled chosen) c.loop-session.session-index c.loop-session.sessions c.args.sessions.now c.session-item.result new c.loop-session-test.true settled c.loop-session.invariant

pub returns : goal.returns
returns c =
    let chosen = contains nat_cmp c.args.taken.now in
    c.loop-session.invariant ∙ all_changed view (session_settled chosen) c.loop-session.session-index c.args.sessions.now c.loop-session-test.false
    ∙ sessions_settled chosen (map view c.args.sessions.now)
