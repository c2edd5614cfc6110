use Rattle.splitting.proofs.Prelude.{◌≡◌, [], ◌∷◌, ◌++◌, ◌+◌, length, drop, map, sym, ap, ◌∙◌, subst, append_assoc, flat_map, map-append, mapped_left, ClientSession, view, view_txn, ops_in, written, split_writers, Fit, AreNamed, parts}
use Rattle.splitting.proofs.Prelude.{ops_by}
use Rattle.session_log.specs.declared.session.Session.{Session}
use Rattle.splitting.proofs.Named.{fit_front, fit_behind, named_front, named_behind}
use Rattle.splitting.proofs.Walks.{ops_first}
use Rattle.splitting.proofs.log.split_sessions.Goals as goal

pub split_txns-requires : goal.split_txns-requires
split_txns-requires c =
    let m = c.args.names.now in
    let s = view c.session-item.result in
    let next = map view (drop (c.loop-session.session-index + 1) c.args.sessions.now) in
    let left = mapped_left view c.args.sessions.now c.loop-session.session-index c.session-item.result c.loop-session-test.true c.session-item.is in
    let whole = ops_first (map view (drop c.loop-session.session-index c.args.sessions.now)) next s left in
    subst (λ l. Fit m c.loop-session.last (ops_by (map view_txn l))) (sym c.deref.ensures.value)
    (fit_front m c.loop-session.last (ops_by s.txns) (ops_in next) (subst (Fit m c.loop-session.last) whole c.loop-session.invariant.0))

pub loop-session-preserved : goal.loop-session-preserved
loop-session-preserved c =
    let m = c.args.names.now in
    let s = view c.session-item.result in
    let last = c.loop-session.last in
    let next = map view (drop (c.loop-session.session-index + 1) c.args.sessions.now) in
    let left : map view (drop c.loop-session.session-index c.args.sessions.now) ≡ s ∷ next = mapped_left view c.args.sessions.now c.loop-session.session-index c.session-item.result c.loop-session-test.true c.session-item.is in
    let whole : ops_in (map view (drop c.loop-session.session-index c.args.sessions.now)) ≡ ops_by s.txns ++ ops_in next = ops_first (map view (drop c.loop-session.session-index c.args.sessions.now)) next s left in
    let own : map view_txn c.deref.result.now ≡ s.txns = ap (map view_txn) c.deref.ensures.value in
    let is : c.in_ok-txns.behind ≡ last + length (written (ops_by s.txns)) = c.in_ok-txns.ensures.0 ∙ ap (λ l. last + length (written (ops_by l))) own in
    let inv = c.loop-session.invariant in (
      subst (λ n. Fit m n (ops_in next)) (sym is) (fit_behind m last (ops_by s.txns) (ops_in next) (subst (Fit m last) whole inv.0)),
      λ locks named. (
          let before = inv.1 locks named in
          let here : AreNamed locks m last (ops_by s.txns ++ ops_in next) = subst (AreNamed locks m last) whole before.0 in
          let txns : map view_txn c.in_ok-txns.txns.items ≡ flat_map (parts locks) s.txns = c.in_ok-txns.ensures.1 locks (subst (λ l. AreNamed locks m last (ops_by l)) (sym own) (named_front locks m last (ops_by s.txns) (ops_in next) here)) ∙ ap (flat_map (parts locks)) own in
          let new : Session = record { number = c.session-item.result.number; txns = c.in_ok-txns.txns } in
          let same : view new ≡ record { number = s.number; txns = flat_map (parts locks) s.txns } = ap (λ l. record { number = s.number; txns = l }) txns in (
            subst (λ n. AreNamed locks m n (ops_in next)) (sym is) (named_behind locks m last (ops_by s.txns) (ops_in next) here),
            ap (λ l. map view l ++ split_writers locks next) c.in_ok-push.ensures.items
                ∙ ap (λ l. l ++ split_writers locks next) (map-append view c.loop-session.split.items (new ∷ []))
                ∙ append_assoc (map view c.loop-session.split.items) (view new ∷ []) (split_writers locks next)
                ∙ ap (λ (x : ClientSession). map view c.loop-session.split.items ++ x ∷ split_writers locks next) same
                ∙ ap (λ l. map view c.loop-session.split.items ++ split_writers locks l) (sym left)
                ∙ before.1,
          )
          ),
    )
