use Rattle.proof_checks.proofs.Prelude.{◌∙◌, sym, subst, ◌+◌, take, IsLeft, Left}
use Rattle.proof_checks.proofs.Reaching.{front_more, front_marked, front_whole}
use Rattle.proof_checks.proofs.plain.what_is_left.Goals as goal
use Rattle.proof_checks.proofs.plain.what_is_left.Goals.{then-not-has, else-not-has}

pub loop-literal-preserved : goal.loop-literal-preserved
loop-literal-preserved c = λ marked are. elim c.if-not-has.branch [
  | then-not-has w ↦ subst (λ (l : Left). IsLeft marked (take (c.loop-literal.literal-index + 1) c.args.clause.now) l) (sym w.left-is)
      (front_more marked c.args.clause.now c.loop-literal.literal-index _ w.with-left.result c.loop-literal-test.true
      (w.with-left.ensures marked (take c.loop-literal.literal-index c.args.clause.now) (sym (c.has.ensures marked are) ∙ w.if-not-has.true) (c.loop-literal.invariant marked are)))
  | else-not-has w ↦ subst (λ (l : Left). IsLeft marked (take (c.loop-literal.literal-index + 1) c.args.clause.now) l) (sym w.left-is)
      (front_marked marked c.args.clause.now c.loop-literal.literal-index _ c.loop-literal.left c.loop-literal-test.true (c.loop-literal.invariant marked are) (sym (c.has.ensures marked are) ∙ w.if-not-has.false))
]

pub returns : goal.returns
returns c = λ marked are. front_whole marked c.args.clause.now c.loop-literal.literal-index c.loop-literal.left c.loop-literal-test.false (c.loop-literal.invariant marked are)
