use Rattle.point_laws.proofs.OfPart.{some_prefix_of_part}
use Rattle.point_laws.proofs.laws.some_prefix_of_part.Goals as goal

pub returns : goal.returns
returns c = some_prefix_of_part
