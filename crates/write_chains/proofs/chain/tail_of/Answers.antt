use Rattle.write_chains.proofs.Prelude.{◌≡◌, ◌+◌, ◌-◌, ◌<◌, suc, None, Some, get_or, length, sym, ap, ◌∙◌, arith, get_or_default, end_by}
use Rattle.write_chains.proofs.Heads.{end_some, end_none}
use Rattle.write_chains.proofs.chain.tail_of.Goals as goal

pub returns-in-None-clause-tail : goal.returns-in-None-clause-tail
returns-in-None-clause-tail c = λ n f h.
    (let next = c.args.next.now in
    let tail = c.loop-step.tail in
    let within : tail < length next = c.loop-step.invariant.within in
    let none : get_or next tail None ≡ None = ap (λ v. get_or next v None) (sym c.get.ensures.value) ∙ sym (get_or_default next c.get.result _ None (omega (arith, within, c.get.ensures.value))) ∙ c.in-None.is in
    let there : f tail ≡ None = sym (h.each tail (omega (arith, within, h.count))) ∙ none in
    sym (end_none f (n + 1 - c.loop-step.step) tail there) ∙ c.loop-step.invariant.walk n f h)

pub loop-step-preserved : goal.loop-step-preserved
loop-step-preserved c =
    let next = c.args.next.now in
    let tail = c.loop-step.tail in
    let behind = c.in-Some.behind in
    let within : tail < length next = c.loop-step.invariant.within in
    let some : get_or next tail None ≡ Some behind = ap (λ v. get_or next v None) (sym c.get.ensures.value) ∙ sym (get_or_default next c.get.result _ None (omega (arith, within, c.get.ensures.value))) ∙ c.in-Some.is in
    record {
      within = c.requires.stays tail behind some;
      walk = λ n f h.
          let there : f tail ≡ Some behind = sym (h.each tail (omega (arith, within, h.count))) ∙ some in
          let steps : n + 1 - c.loop-step.step ≡ suc (n + 1 - (c.loop-step.step + 1)) = omega (arith, c.loop-step-test.true, h.count) in
          sym (ap (λ k. end_by f k tail) steps ∙ end_some f (n + 1 - (c.loop-step.step + 1)) tail behind there) ∙ c.loop-step.invariant.walk n f h;
    }
