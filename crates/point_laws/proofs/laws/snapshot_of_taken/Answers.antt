use Rattle.point_laws.proofs.Some.{snapshot_of_taken}
use Rattle.point_laws.proofs.laws.snapshot_of_taken.Goals as goal

pub returns : goal.returns
returns c = snapshot_of_taken
