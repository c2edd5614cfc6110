use Rattle.polygraph.proofs.Prelude.{◌≡◌, refl, get_or, sym, subst, arith, false≢true, once_length, not_once_outside}
use Rattle.polygraph.proofs.Placed.{nothing_placed, not_once_twice, placed_more, once_placed, all_placed}
use Rattle.polygraph.proofs.places.places_in.Goals as goal
use Rattle.polygraph.proofs.places.places_in.Goals.{then-number-eq0-via-then-number-eq0, then-number-eq0-via-else-number-eq0+then-number-n, then-number-eq0-via-else-number-eq0+else-number-n+then-places-number-ne0}

pub returns-then-order-n-clause-once : goal.returns-then-order-n-clause-once
returns-then-order-n-clause-once c =
    (λ f. absurd (false≢true f), λ once. absurd (c.if-order-n.true (once_length c.args.n c.args.order.now once)))

pub loop-index-init : goal.loop-index-init
loop-index-init c = nothing_placed c.args.n c.args.order.now c.no_places-places.result c.no_places-places.ensures.len c.no_places-places.ensures.zero

pub returns-then-number-eq0-clause-once : goal.returns-then-number-eq0-clause-once
returns-then-number-eq0-clause-once c =
    let n = c.args.n in
    let order = c.args.order.now in
    let i = c.loop-index.index in
    let v = c.get-number.result in
    let lt = c.loop-index-test.true in
    let stands : get_or order i v ≡ v = subst (λ w. get_or order i w ≡ w) (sym c.get-number.ensures.value) (sym c.index-order-index.is) in (
      λ f. absurd (false≢true f),
      λ once. absurd (elim c.then-number-eq0.branch [
        | then-number-eq0-via-then-number-eq0 w ↦ not_once_outside n order i v lt stands (λ lo hi. omega (arith, lo, w.if-number-eq0.true)) once
        | then-number-eq0-via-else-number-eq0+then-number-n w ↦ not_once_outside n order i v lt stands (λ lo hi. omega (arith, hi, w.if-number-n.true)) once
        | then-number-eq0-via-else-number-eq0+else-number-n+then-places-number-ne0 w ↦
            not_once_twice n order i v c.loop-index.places lt stands (omega (arith, w.if-number-n.false)) w.if-places-number-ne0.true c.loop-index.invariant once
      ]),
    )

pub loop-index-preserved : goal.loop-index-preserved
loop-index-preserved c =
    let n = c.args.n in
    let order = c.args.order.now in
    let i = c.loop-index.index in
    let v = c.get-number.result in
    let stands : get_or order i v ≡ v = subst (λ w. get_or order i w ≡ w) (sym c.get-number.ensures.value) (sym c.index-order-index.is) in
    placed_more n order i v c.loop-index.places c.requires.few c.loop-index-test.true stands (omega (arith, c.if-number-eq0.false)) (omega (arith, c.if-number-n.false)) c.if-places-number-ne0.false c.loop-index.invariant

pub returns-clause-once : goal.returns-clause-once
returns-clause-once c =
    (λ t. once_placed c.args.n c.args.order.now c.loop-index.index c.loop-index.places c.if-order-n.false (c.loop-index-test.false) c.loop-index.invariant, λ once. refl)

pub returns-clause-places : goal.returns-clause-places
returns-clause-places c =
    all_placed c.args.n c.args.order.now c.loop-index.index c.loop-index.places c.if-order-n.false (c.loop-index-test.false) c.loop-index.invariant
