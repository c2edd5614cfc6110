use Rattle.tell_steps.proofs.Prelude.{◌≡◌, ◌∙◌, Some, refl, ap, subst, inl, inr, arith, slice_get, Contains, cases_lt, not_from_false, slice_get-get_or, All-contains, item, same_item, contains_at, log_of, edges_in, IsOrder}
use Rattle.tell_steps.proofs.decided.first_with.Goals as goal

pub loop-place-preserved : goal.loop-place-preserved
loop-place-preserved c = λ all k o lt at has.
    let log = log_of c.args.chains.now in
    let orders = c.args.orders.now in
    let i = c.loop-place.place in
    let x = c.index-orders-place.result in
    let here : slice_get orders i ≡ Some x = item orders i x c.loop-place-test.true c.index-orders-place.is in
    elim (cases_lt k i) [
      | inl below ↦ c.loop-place.invariant all k o below at has
      | inr ge ↦ (let same : i ≡ k = omega (arith, lt, ge) in
          let is : o ≡ x = same_item orders i o x (ap (slice_get orders) same ∙ at) here in
          c.has_edge.ensures.no (not_from_false c.has_edge.result c.if-has_edge.false) (All-contains (IsOrder log) orders x all (contains_at orders i x here)) (subst (λ z. Contains (edges_in log z) (c.args.a, c.args.b)) is has))
    ]

pub returns-then-has_edge : goal.returns-then-has_edge
returns-then-has_edge c =
    let here = item c.args.orders.now c.loop-place.place c.index-orders-place.result c.loop-place-test.true c.index-orders-place.is in
    let has = c.has_edge.ensures.yes c.if-has_edge.true in
    record { found = (c.loop-place.place, refl, here, has, λ all. record { at = here; has = has; before = λ j p lt at. c.loop-place.invariant all j p lt at }) }

pub returns : goal.returns
returns c =
    let orders = c.args.orders.now in
    record { found = λ all. record { none = λ o among has. c.loop-place.invariant all among.0 o (omega (arith, among.1, c.loop-place-test.false)) (slice_get-get_or orders among.0 o among.1 ∙ ap Some among.2) has } }
