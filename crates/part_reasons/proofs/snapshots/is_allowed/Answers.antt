use Rattle.part_reasons.proofs.Prelude.{◌≡◌, false, codes, sym, ◌∙◌, subst, nat_eq, starts_with, take_rest}
use Rattle.part_reasons.proofs.Allowed.{allowed_behind}
use Rattle.part_reasons.proofs.snapshots.is_allowed.Goals as goal

pub loop-i-preserved : goal.loop-i-preserved
loop-i-preserved c =
    let apart = subst (λ l. starts_with nat_eq l (codes "(G2-") ≡ false) (take_rest c.args.line.now c.loop-i.i) (sym c.starts_with.ensures.value ∙ c.if-starts_with.false) in
    allowed_behind c.args.line.now c.loop-i.i c.loop-i-test.true apart ∙ c.loop-i.invariant
