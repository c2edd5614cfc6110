use Rattle.level_checks.proofs.Prelude.{here}
use Rattle.level_checks.proofs.Chains.{jump_twice}
use Rattle.level_checks.proofs.trail.jump_behind.Goals as goal

pub returns-in_default : goal.returns-in_default
returns-in_default c of bound xs chain = here c.args.before

pub returns-in_default-passed_at : goal.returns-in_default-passed_at
returns-in_default-passed_at c of bound xs chain = here c.args.before

pub returns-then-first-second : goal.returns-then-first-second
returns-then-first-second c of bound xs chain =
    jump_twice of c.args.entries.now bound c.args.before xs c.in-Some.passed c.in-Some-passed_at.middle chain c.in-Some.ensures.0 c.in-Some.ensures.1 c.in-Some-passed_at.ensures.0 c.in-Some-passed_at.ensures.1

pub returns-else-first-second : goal.returns-else-first-second
returns-else-first-second c of bound xs chain = here c.args.before
