use Rattle.branch_search.proofs.Prelude.{sym, ap, ◌∙◌, view_after}
use Rattle.branch_search.proofs.Retraced.{step_taken, kept_on, kept_more}
use Rattle.branch_search.proofs.retrace.replay.Goals as goal

pub loop-step-preserved-then-len : goal.loop-step-preserved-then-len
loop-step-preserved-then-len c =
    let v = c.loop-step.view in
    let w = c.extend.new.view in
    let old = c.loop-step.trail.ahead.items in
    let new = c.pop.new.self.items in
    let step = c.in-Some.step in
    let taken = c.in-Some.ensures.items in
    let made = c.in-Some-extend.ensures.decided in
    let ahead = ap (λ left. left.items) c.in_ok-keep.ensures.ahead in (
      c.extend.ensures.polygraph ∙ c.loop-step.invariant.0,
      c.in_ok-keep.ensures.kept,
      ap (λ left. view_after left w) ahead ∙ step_taken old new step v w taken made ∙ c.loop-step.invariant.2,
      kept_more c.args.trail.now.kept.items c.loop-step.trail.kept.items c.args.trail.now.ahead.items old new step c.args.view.now v w c.loop-step.invariant.3 taken made c.keep.new.trail.kept.items c.keep.new.trail.ahead.items ahead c.in_ok-keep.ensures.views,
    )

pub loop-step-preserved : goal.loop-step-preserved
loop-step-preserved c =
    let v = c.loop-step.view in
    let w = c.extend.new.view in
    let old = c.loop-step.trail.ahead.items in
    let new = c.pop.new.self.items in
    let step = c.in-Some.step in
    let taken = c.in-Some.ensures.items in
    let made = c.in-Some-extend.ensures.decided in (
      c.extend.ensures.polygraph ∙ c.loop-step.invariant.0,
      λ k d lt. c.loop-step.invariant.1 k d lt ∙ sym c.extend.ensures.polygraph,
      step_taken old new step v w taken made ∙ c.loop-step.invariant.2,
      kept_on c.args.trail.now.kept.items c.loop-step.trail.kept.items c.args.trail.now.ahead.items old new step c.args.view.now v w c.loop-step.invariant.3 taken made,
    )
