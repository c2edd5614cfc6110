use Rattle.tell_steps.proofs.Prelude.{◌<◌, length, map, arith, round_view, AreAllTold}
use Rattle.tell_steps.proofs.Dropping.{dropped}
use Rattle.tell_steps.proofs.whole.tell_needed.Goals as goal

pub dropping-preserved : goal.dropping-preserved
dropping-preserved c = λ b a.
    let ss = c.args.chains.now in
    let left = c.dropping.left.items in
    let rounds = c.args.rounds.now in
    let items = c.in-Some.items.items in
    let k = c.in-Some-first_unnamed.step in
    let lt : k < length left = omega (arith, c.in-Some-first_unnamed.ensures.some.0, c.len.ensures, c.dropping.left.ok.0) in
    let unnamed = rw c.deref-in-dropping.ensures.value at c.in-Some-first_unnamed.ensures.some.1 in
    let told : AreAllTold ss left (map round_view rounds) items = rw (c.in-Some.is, c.deref.ensures.value) at c.in_ok-items.ensures.told in
    let s = c.dropping.invariant b a in
    rw c.remove-unnamed.ensures.items (dropped ss left rounds items k lt unnamed told s.0 s.1)

pub returns-in_default-clause-none : goal.returns-in_default-clause-none
returns-in_default-clause-none c = λ b a. let s = c.dropping.invariant b a in (rw (c.in_default.is, c.deref.ensures.value) at c.in_ok-items.ensures.none) s.0 s.1

pub returns-in_default-first_unnamed-clause-told : goal.returns-in_default-first_unnamed-clause-told
returns-in_default-first_unnamed-clause-told c =
    let left = c.dropping.left in
    let named = rw c.deref-in-dropping.ensures.value at c.in_default-first_unnamed.ensures.none in
    record { steps = left.items; told = rw (c.in-Some.is, c.deref.ensures.value) at c.in_ok-items.ensures.told; needed = λ k lt. named k (omega (arith, lt, c.len.ensures, left.ok.0)) }
