use Rattle.proof_checks.proofs.Prelude.{◌∙◌, sym, list_any_at, is_same}
use Rattle.proof_checks.proofs.Once.{none_more, none_in_all}
use Rattle.proof_checks.proofs.distinct.has.Goals as goal

pub returns-then-is_same : goal.returns-then-is_same
returns-then-is_same c = sym (list_any_at (is_same c.args.literal) c.args.literals.now c.loop-other.other-index _ c.loop-other-test.true (sym c.is_same.ensures ∙ c.if-is_same.true))

pub loop-other-preserved : goal.loop-other-preserved
loop-other-preserved c = none_more (is_same c.args.literal) c.args.literals.now c.loop-other.other-index _ c.loop-other-test.true c.loop-other.invariant (sym c.is_same.ensures ∙ c.if-is_same.false)

pub returns : goal.returns
returns c = sym (none_in_all (is_same c.args.literal) c.args.literals.now c.loop-other.other-index c.loop-other-test.false c.loop-other.invariant)
