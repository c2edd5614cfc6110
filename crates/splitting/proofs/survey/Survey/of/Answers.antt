use Rattle.splitting.proofs.Prelude.{◌+◌, ◌++◌, [], take, map, sym, subst, ap, ◌∙◌, view, view_txn, ClientSession, ops_in, Finds, ops_by}
use Rattle.splitting.proofs.Greatest.{base, finds_none, finds_join}
use Rattle.splitting.proofs.Walks.{flat_front, ops_in_is}
use Rattle.splitting.proofs.survey.Survey.of.Goals as goal

pub loop-session-init : goal.loop-session-init
loop-session-init c = subst (Finds base []) (sym c.empty-survey.ensures) (finds_none base)

pub loop-session-preserved : goal.loop-session-preserved
loop-session-preserved c =
    let sessions = c.args.sessions.now in
    let i = c.loop-session.session-index in
    let front = map view (take i sessions) in
    let more =
    ops_in_is (map view (take (i + 1) sessions))
    ∙ flat_front (λ (s : ClientSession). ops_by s.txns) view sessions i c.session-item.result c.loop-session-test.true c.session-item.is
    ∙ ap (λ l. l ++ ops_by (map view_txn c.session-item.result.txns.items)) (sym (ops_in_is front)) in
    subst (λ l. Finds base l c.add_txns.new.self) (sym more)
    (finds_join base c.loop-session.survey c.add_txns.new.self (ops_in front) (ops_by (map view_txn c.session-item.result.txns.items)) c.loop-session.invariant
    (subst (λ l. Finds c.loop-session.survey (ops_by (map view_txn l)) c.add_txns.new.self) c.deref.ensures.value c.in_ok-add_txns.ensures))
