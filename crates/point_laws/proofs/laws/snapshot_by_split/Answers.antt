use Rattle.point_laws.proofs.Orders.{snapshot_by_split}
use Rattle.point_laws.proofs.laws.snapshot_by_split.Goals as goal

pub returns : goal.returns
returns c = snapshot_by_split
