use Rattle.splitting.proofs.Fresh.{snapshot_by_split_log}
use Rattle.splitting.proofs.laws.snapshot_by_split_log.Goals as goal

pub returns : goal.returns
returns c = snapshot_by_split_log
