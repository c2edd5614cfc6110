use Rattle.point_laws.proofs.Points.{snapshot_by_writers}
use Rattle.point_laws.proofs.laws.snapshot_by_writers.Goals as goal

pub returns : goal.returns
returns c = snapshot_by_writers
