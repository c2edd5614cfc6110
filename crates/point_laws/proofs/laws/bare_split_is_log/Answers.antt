use Rattle.point_laws.proofs.Prefix.{bare_split_log}
use Rattle.point_laws.proofs.laws.bare_split_is_log.Goals as goal

pub returns : goal.returns
returns c = bare_split_log
