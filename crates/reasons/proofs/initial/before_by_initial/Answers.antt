use Rattle.reasons.proofs.Initials.{none_initial}
use Rattle.reasons.proofs.initial.before_by_initial.Goals as goal

pub returns-in-None-clause-none : goal.returns-in-None-clause-none
returns-in-None-clause-none c = none_initial c.args.history.now c.requires.clean c.args.a c.args.b (rw c.in-None.is at c.in_ok-begins.ensures.none)
