use Rattle.splitting.proofs.Prelude.{◌+◌, ◌++◌, [], take, map, sym, subst, ap, ◌∙◌, take_all, view, view_txn, ClientSession, key_of, ops_in, first_seen, keys_in, AreNumbers, ops_by}
use Rattle.splitting.proofs.KeyNumbers.{seen_ops}
use Rattle.splitting.proofs.Walks.{flat_front, ops_in_is}
use Rattle.splitting.proofs.numbers.KeyNumbers.of.Goals as goal

pub loop-session-init : goal.loop-session-init
loop-session-init c = c.in_ok-numbers.ensures

pub loop-session-preserved : goal.loop-session-preserved
loop-session-preserved c =
    let sessions = c.args.sessions.now in
    let i = c.loop-session.session-index in
    let front = map view (take i sessions) in
    let own = ops_by (map view_txn c.session-item.result.txns.items) in
    let more =
    ops_in_is (map view (take (i + 1) sessions))
    ∙ flat_front (λ (s : ClientSession). ops_by s.txns) view sessions i c.session-item.result c.loop-session-test.true c.session-item.is
    ∙ ap (λ l. l ++ own) (sym (ops_in_is front)) in
    subst (λ l. AreNumbers l c.add_txns.new.self) (sym (ap (λ l. first_seen [] (map key_of l)) more ∙ seen_ops (ops_in front) own))
    (subst (λ l. AreNumbers (first_seen (first_seen [] (map key_of (ops_in front))) (map key_of (ops_by (map view_txn l)))) c.add_txns.new.self) c.deref.ensures.value
    (c.in_ok-add_txns.ensures (first_seen [] (map key_of (ops_in front))) c.loop-session.invariant))

pub returns : goal.returns
unfolding keys_in
returns c = subst (λ l. AreNumbers (first_seen [] (map key_of (ops_in (map view l)))) c.loop-session.numbers) (take_all c.loop-session.session-index c.args.sessions.now c.loop-session-test.false) c.loop-session.invariant
