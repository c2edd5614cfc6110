use Rattle.point_laws.proofs.Timeless.{snapshot_without_moments}
use Rattle.point_laws.proofs.laws.snapshot_without_moments.Goals as goal

pub returns : goal.returns
returns c = snapshot_without_moments
