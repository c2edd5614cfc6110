use Rattle.level_checks.proofs.Chains.{found_at, found_none}
use Rattle.level_checks.proofs.trail.is_left_by.Goals as goal

pub returns-then-wid-eq0 : goal.returns-then-wid-eq0
returns-then-wid-eq0 c t of xs l = found_none l c.args.wid c.if-left-eq0.true c.if-position-eq0.true c.if-wid-eq0.true

pub returns-then-passed-wid : goal.returns-then-passed-wid
returns-then-passed-wid c t of xs l = found_at l c.in-Some.passed c.args.wid c.in-Some.ensures.0 c.in-Some.ensures.1 c.if-passed-position.true c.if-passed-wid.true
