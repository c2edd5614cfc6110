use Rattle.point_laws.proofs.Resolved.{snapshot_of_resolved}
use Rattle.point_laws.proofs.laws.snapshot_of_resolved.Goals as goal

pub returns : goal.returns
returns c = snapshot_of_resolved
