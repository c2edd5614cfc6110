use Rattle.reasons.proofs.Prelude.{arith, false≢true, log_of, within}
use Rattle.reasons.proofs.Initials.{zero_unread, too_far}
use Rattle.reasons.proofs.initial.follows_initial.Goals as goal

pub returns : goal.returns
returns c =
    let ss = c.args.history.now in
    let far = too_far (log_of ss) c.args.key (zero_unread ss c.args.key) c.args.node c.loop-step.first c.loop-step.step (within ss c.args.node c.requires.node) c.loop-step.invariant (omega (arith, c.loop-step-test.false, c.committed-step-end.ensures.count)) in
    (λ t. absurd (false≢true t), λ f. absurd (far f))
