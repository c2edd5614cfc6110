use Rattle.proof_checks.proofs.Reaching.{number_more}
use Rattle.proof_checks.proofs.plain.numbers_below.Goals as goal

pub loop-number-preserved : goal.loop-number-preserved
loop-number-preserved c = number_more c.loop-number.numbers.items c.push.new.self.items c.loop-number.number c.loop-number.invariant c.in_ok-push.ensures.items
