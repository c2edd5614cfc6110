use Rattle.tell_steps.proofs.Prelude.{◌≡◌, true, is_named}
use borrow.Author.Count.{below_more}
use Rattle.tell_steps.proofs.whole.first_unnamed.Goals as goal

pub loop-step-preserved : goal.loop-step-preserved
loop-step-preserved c = below_more (λ k. is_named c.args.items.now k ≡ true) c.loop-step.step c.loop-step.invariant (cc)
