use Rattle.level_checks.proofs.Prelude.{arith}
use Rattle.level_checks.proofs.Chains.{step_back, jump_back}
use Rattle.level_checks.proofs.trail.one_back.Goals as goal

pub returns-then-is_behind : goal.returns-then-is_behind
returns-then-is_behind c of xs l = jump_back l c.in-Some.passed c.in-Some.ensures.0 c.in-Some.ensures.1 (omega arith) (c.is_behind.ensures c.if-is_behind.true)

pub returns-else-is_behind : goal.returns-else-is_behind
returns-else-is_behind c of xs l = step_back l c.in-Some.passed c.in-Some.ensures.0 c.in-Some.ensures.1 (omega arith)
