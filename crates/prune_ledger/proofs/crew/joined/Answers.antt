use Rattle.prune_ledger.proofs.Prelude.{◌≡◌, ◌⊎◌, ℕ, true, Some, ◌∙◌, subst, arith, IfOk, slice_get, AllByRecursion, Contains, IsOpenIn}
use Rattle.prune_ledger.proofs.Flags.{open_more}
use Rattle.prune_ledger.proofs.Seats.{moved_on, at_end}
use Rattle.prune_ledger.proofs.crew.joined.Goals as goal

pub loop-left-preserved : goal.loop-left-preserved
loop-left-preserved g c = (
  (λ edges choices a.
      (let r = c.loop-left.invariant.0 edges choices a in
      let split = subst (AllByRecursion (λ d. IfOk d.1 (λ passed. AllByRecursion (IsOpenIn edges choices) passed.items))) c.in-Some.ensures.steps.0 r.0 in
      let here = subst (λ x. IfOk x (λ passed. AllByRecursion (IsOpenIn edges choices) passed.items)) c.in_ok-passed.was split.0 in (
        split.1,
        open_more edges choices c.loop-left.slots c.flag_all.new.flags c.in_ok-passed.passed.items r.1 here
            (subst (λ l. (k : ℕ) → slice_get c.flag_all.new.flags k ≡ Some true → (slice_get c.loop-left.slots k ≡ Some true) ⊎ Contains l k) c.deref.ensures.value c.flag_all.ensures.flags),
      ))),
  c.flag_all.ensures.len ∙ c.loop-left.invariant.1,
  moved_on c.loop-left.lefts.items c.push.new.self.items (c.in-Some.left, c.in-Some.passed) c.loop-left.left-iterator.rest.items c.next.new.self.rest.items _ c.in_ok-push.ensures.items c.in-Some.ensures.steps.0 c.loop-left.invariant.2,
)

pub returns-clause-lefts : goal.returns-clause-lefts
returns-clause-lefts g c =
    let n = c.in-None.ensures.steps.0 in let o = c.loop-left.left-iterator.rest.ok in
    at_end c.loop-left.lefts.items c.loop-left.left-iterator.rest.items _ (omega arith) c.loop-left.invariant.2
