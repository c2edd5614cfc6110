use Rattle.splitting.proofs.Prelude.{◌≡◌, ◌∷◌, ◌++◌, ◌+◌, ◌<◌, ◌^◌, length, drop, map, sym, ap, ◌∙◌, subst, append_assoc, flat_map, mapped_left, view_txn, written, Fit, AreNamed, parts, ops_by}
use Rattle.splitting.proofs.Named.{fit_front, fit_behind, named_front, named_behind}
use Rattle.splitting.proofs.Walks.{wrote_more}
use Rattle.splitting.proofs.log.split_txns.Goals as goal

pub add_txn-requires : goal.add_txn-requires
add_txn-requires c =
    let m = c.args.names.now in
    let next = map view_txn (drop (c.loop-txn.txn-index + 1) c.args.txns.now) in
    let whole = ap ops_by (mapped_left view_txn c.args.txns.now c.loop-txn.txn-index c.txn-item.result c.loop-txn-test.true c.txn-item.is) in
    fit_front m c.loop-txn.last c.txn-item.result.ops.items (ops_by next) (subst (Fit m c.loop-txn.last) whole c.loop-txn.invariant.0)

pub last_behind-last-requires : goal.last_behind-last-requires
last_behind-last-requires c =
    let m = c.args.names.now in
    let next = map view_txn (drop (c.loop-txn.txn-index + 1) c.args.txns.now) in
    let whole = ap ops_by (mapped_left view_txn c.args.txns.now c.loop-txn.txn-index c.txn-item.result c.loop-txn-test.true c.txn-item.is) in
    subst (λ l. c.loop-txn.last + length (written l) < 2 ^ 64) (sym c.deref.ensures.value)
    (fit_front m c.loop-txn.last c.txn-item.result.ops.items (ops_by next) (subst (Fit m c.loop-txn.last) whole c.loop-txn.invariant.0)).identities

pub loop-txn-preserved : goal.loop-txn-preserved
loop-txn-preserved c =
    let m = c.args.names.now in
    let t = view_txn c.txn-item.result in
    let last = c.loop-txn.last in
    let behind = c.last_behind-last.result in
    let all = map view_txn c.args.txns.now in
    let next = map view_txn (drop (c.loop-txn.txn-index + 1) c.args.txns.now) in
    let left : map view_txn (drop c.loop-txn.txn-index c.args.txns.now) ≡ t ∷ next = mapped_left view_txn c.args.txns.now c.loop-txn.txn-index c.txn-item.result c.loop-txn-test.true c.txn-item.is in
    let whole : ops_by (map view_txn (drop c.loop-txn.txn-index c.args.txns.now)) ≡ t.ops ++ ops_by next = ap ops_by left in
    let is : behind ≡ last + length (written t.ops) = c.last_behind-last.ensures ∙ ap (λ l. last + length (written l)) c.deref.ensures.value in
    let inv = c.loop-txn.invariant in (
      subst (λ n. Fit m n (ops_by next)) (sym is) (fit_behind m last t.ops (ops_by next) (subst (Fit m last) whole inv.0)),
      wrote_more last (c.args.last + length (written (ops_by all))) behind (ops_by (map view_txn (drop c.loop-txn.txn-index c.args.txns.now))) t.ops (ops_by next) whole inv.1 is,
      λ locks named. (
          let before = inv.2 locks named in
          let here : AreNamed locks m last (t.ops ++ ops_by next) = subst (AreNamed locks m last) whole before.0 in (
            subst (λ n. AreNamed locks m n (ops_by next)) (sym is) (named_behind locks m last t.ops (ops_by next) here),
            ap (λ l. l ++ flat_map (parts locks) next) (c.in_ok-add_txn.ensures locks (named_front locks m last t.ops (ops_by next) here))
                ∙ append_assoc (map view_txn c.loop-txn.split.items) (parts locks t) (flat_map (parts locks) next)
                ∙ ap (λ l. map view_txn c.loop-txn.split.items ++ flat_map (parts locks) l) (sym left)
                ∙ before.1,
          )
          ),
    )
