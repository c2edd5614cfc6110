use Rattle.point_laws.proofs.Timeless.{prefix_without_moments}
use Rattle.point_laws.proofs.laws.prefix_without_moments.Goals as goal

pub returns : goal.returns
returns c = prefix_without_moments
