use Rattle.judging.proofs.Prelude.{resolved_is_log}
use Rattle.judging.proofs.laws.resolved_is_log.Goals as goal

pub returns : goal.returns
returns c = resolved_is_log
