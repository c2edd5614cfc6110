use Rattle.reasons.proofs.Firsts.{none_read, some_named}
use Rattle.reasons.proofs.read.read_by.Goals as goal

pub returns-in_default-clause-none : goal.returns-in_default-clause-none
returns-in_default-clause-none c = none_read c.args.history.now c.args.a c.args.b c.in_default.ensures

pub returns-in_default-first_named-clause-none : goal.returns-in_default-first_named-clause-none
returns-in_default-first_named-clause-none c = absurd (some_named c.args.history.now c.args.a c.args.b c.in-Some.read c.events_of.result.now c.events_of.ensures.events c.in-Some.ensures c.in_default-first_named.ensures)
