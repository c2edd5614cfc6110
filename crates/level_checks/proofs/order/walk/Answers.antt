use Rattle.level_checks.proofs.Prelude.{refl}
use Rattle.level_checks.proofs.order.walk.Goals as goal

pub loop-i-preserved : goal.loop-i-preserved
loop-i-preserved c =
    let t = c.if-not-branch.false in
    let noted = c.loop-i.invariant.0 in
    (c.in_ok-take.ensures.noted t noted, c.in_ok-take.ensures.walked t noted c.args.order.now c.loop-i.i refl refl c.loop-i.invariant.1)
