use Rattle.tell_steps.proofs.steps.tell_step.Goals as goal

pub returns-in_default-clause-none : goal.returns-in_default-clause-none
returns-in_default-clause-none c = c.in_default.ensures.none c.args.earlier.now
