use Rattle.point_laws.proofs.OfPart.{prefix_of_part}
use Rattle.point_laws.proofs.laws.prefix_of_part.Goals as goal

pub returns : goal.returns
returns c = prefix_of_part
