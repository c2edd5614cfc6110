use Rattle.point_laws.proofs.Legal.{split_is_log}
use Rattle.point_laws.proofs.laws.split_is_log.Goals as goal

pub returns : goal.returns
returns c = split_is_log
