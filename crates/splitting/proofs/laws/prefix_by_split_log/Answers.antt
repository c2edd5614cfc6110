use Rattle.splitting.proofs.Fresh.{prefix_by_split_log}
use Rattle.splitting.proofs.laws.prefix_by_split_log.Goals as goal

pub returns : goal.returns
returns c = prefix_by_split_log
