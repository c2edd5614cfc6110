use Rattle.point_laws.proofs.Prefix.{prefix_by_split}
use Rattle.point_laws.proofs.laws.prefix_by_split.Goals as goal

pub returns : goal.returns
returns c = prefix_by_split
