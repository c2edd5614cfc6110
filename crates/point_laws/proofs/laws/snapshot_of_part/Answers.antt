use Rattle.point_laws.proofs.OfPart.{snapshot_of_part}
use Rattle.point_laws.proofs.laws.snapshot_of_part.Goals as goal

pub returns : goal.returns
returns c = snapshot_of_part
