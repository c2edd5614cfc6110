use Rattle.reasons.proofs.Prelude.{rules}
use Rattle.reasons.proofs.Squares.{has_entered}
use Rattle.reasons.proofs.crossed.enter.Goals as goal

pub returns-in_ok-insert-in-None-clause-entered : goal.returns-in_ok-insert-in-None-clause-entered
returns-in_ok-insert-in-None-clause-entered c = has_entered c.args.place c.args.now.now c.args.met.now c.insert.new.self (search rules) c.in_ok-insert-in-None.ensures.updates
