use Rattle.tell_steps.proofs.Prelude.{inl, inr, add-one, sym, subst, ◌∙◌, contains_at, HaveNone, Forced, IsWhy}
use Rattle.tell_steps.proofs.lines.why_of.Goals as goal

pub returns-in-Some-clause-why : goal.returns-in-Some-clause-why
returns-in-Some-clause-why c =
    let r = c.in_ok-reason.ensures in (rw (c.in-Some.is, c.history.ensures.history) at r.holds, rw (c.in-Some.is, c.history.ensures.history) at r.first, rw (c.in-Some.is, c.history.ensures.history) at r.least)

pub returns-in-Some-first_with-clause-why : goal.returns-in-Some-first_with-clause-why
returns-in-Some-first_with-clause-why c =
    let f = c.in-Some-first_with.ensures.found in
    let none : HaveNone c.args.chains.now c.args.a c.args.b = rw (c.in_default.is, c.history.ensures.history) at c.in_ok-reason.ensures.none in
    subst (λ n. IsWhy c.args.chains.now c.args.steps.now c.args.decided.now c.args.a c.args.b (Forced n c.in-Some-first_with.order)) (sym (f.1 ∙ add-one f.0)) (none, f.4 c.requires.steps)

pub returns-in-Some-first_with-2-clause-why : goal.returns-in-Some-first_with-2-clause-why
returns-in-Some-first_with-2-clause-why c =
    let f = c.in-Some-first_with-2.ensures.found in
    let none : HaveNone c.args.chains.now c.args.a c.args.b = rw (c.in_default.is, c.history.ensures.history) at c.in_ok-reason.ensures.none in
    (none, c.in_default-first_with.ensures.found c.requires.steps, contains_at c.args.decided.now f.0 c.in-Some-first_with-2.order f.2, f.3)

pub returns-in-None-clause-none : goal.returns-in-None-clause-none
returns-in-None-clause-none c = λ all s.
    let none : HaveNone c.args.chains.now c.args.a c.args.b = rw (c.in_default.is, c.history.ensures.history) at c.in_ok-reason.ensures.none in
    elim (s.has none) [
      | inl h ↦ (c.in_default-first_with.ensures.found c.requires.steps).none h.order h.among h.has
      | inr h ↦ (c.in-None.ensures.found all).none h.order h.among h.has
    ]
