use Rattle.splitting.proofs.Fresh.{snapshot_by_resolved_split}
use Rattle.splitting.proofs.laws.snapshot_by_resolved_split.Goals as goal

pub returns : goal.returns
returns c = snapshot_by_resolved_split
