use Rattle.level_checks.proofs.Chains.{none_left_at, none_at}
use Rattle.level_checks.proofs.trail.writes_at.Goals as goal

pub returns-then-left-eq0 : goal.returns-then-left-eq0
returns-then-left-eq0 c f of bound xs chain = none_left_at (c.back_to-left.ensures of bound xs chain) c.if-left-eq0.true

pub returns-then-passed-position : goal.returns-then-passed-position
returns-then-passed-position c f of bound xs chain = none_at (c.back_to-left.ensures of bound xs chain) c.in-Some.passed c.in-Some.ensures.0 c.in-Some.ensures.1 c.if-passed-position.true
