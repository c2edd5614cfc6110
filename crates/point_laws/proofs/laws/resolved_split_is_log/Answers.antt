use Rattle.point_laws.proofs.Legal.{resolved_split_is_log}
use Rattle.point_laws.proofs.laws.resolved_split_is_log.Goals as goal

pub returns : goal.returns
returns c = resolved_split_is_log
