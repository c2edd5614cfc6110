use Rattle.point_laws.proofs.Prefix.{points_of_prefix}
use Rattle.point_laws.proofs.laws.points_of_prefix.Goals as goal

pub returns : goal.returns
returns c = points_of_prefix
