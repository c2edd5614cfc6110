use Rattle.splitting.proofs.Prelude.{◌≡◌, ◌∷◌, ◌+◌, sym, subst, drop, Read, Write, Locks, Fit, AreNamed, ComesTo}
use Rattle.splitting.proofs.Named.{fit_read, fit_write, named_read, named_write, item_behind}
use Rattle.splitting.proofs.halves.Halves.of.Goals.{in-Read+in_ok-add_read-in-Read, in-Write+in_ok-add_write-in-Write}
use Rattle.splitting.proofs.halves.Halves.of.Goals as goal

pub loop-op-init : goal.loop-op-init
loop-op-init c = (c.empty-halves.ensures c.args.names.now c.args.last c.args.ops.now, c.requires, λ locks named. named)

pub loop-op-preserved : goal.loop-op-preserved
loop-op-preserved c =
    let ops = c.args.ops.now in
    let i = c.loop-op.op-index in
    let m = c.args.names.now in
    let next = drop (i + 1) ops in
    let inv = c.loop-op.invariant in
    elim c.match-op.branch [
      | in-Read+in_ok-add_read-in-Read w ↦
          let whole : drop i ops ≡ Read w.in-Read.key w.in-Read.wid ∷ next = item_behind ops i c.op-item.result (Read w.in-Read.key w.in-Read.wid) c.loop-op-test.true c.op-item.is w.in-Read.is in (
            subst (λ h. ComesTo m c.args.last ops h next) (sym w.halves-is) (w.in_ok-add_read-in-Read.ensures m c.args.last ops next (subst (ComesTo m c.args.last ops c.loop-op.halves) whole inv.0)),
            subst (λ n. Fit m n next) (sym w.taken_as-is) (fit_read m c.loop-op.taken_as w.in-Read.key w.in-Read.wid next (subst (Fit m c.loop-op.taken_as) whole inv.1)),
            λ locks named. subst (λ n. AreNamed locks m n next) (sym w.taken_as-is) (named_read locks m c.loop-op.taken_as w.in-Read.key w.in-Read.wid next (subst (AreNamed locks m c.loop-op.taken_as) whole (inv.2 locks named))),
          )
      | in-Write+in_ok-add_write-in-Write w ↦
          let key = w.in-Write.key in
          let wid = w.in-Write.wid in
          let last = c.loop-op.taken_as in
          let whole : drop i ops ≡ Write key wid ∷ next = item_behind ops i c.op-item.result (Write key wid) c.loop-op-test.true c.op-item.is w.in-Write.is in
          let named : (locks : Locks) → AreNamed locks m c.args.last ops → (locks.identity wid ≡ last + 1) × AreNamed locks m (last + 1) next =
          λ locks all. named_write locks m last key wid next (subst (AreNamed locks m last) whole (inv.2 locks all)) in (
            subst (λ h. ComesTo m c.args.last ops h next) (sym w.halves-is) (w.in_ok-add_write-in-Write.ensures c.args.last ops next (λ locks all. (named locks all).0) (subst (ComesTo m c.args.last ops c.loop-op.halves) whole inv.0)),
            subst (λ n. Fit m n next) (sym w.taken_as-is) (fit_write m last key wid next (subst (Fit m last) whole inv.1)),
            λ locks all. subst (λ n. AreNamed locks m n next) (sym w.taken_as-is) (named locks all).1,
          )
    ]
