use Rattle.point_laws.proofs.Some.{prefix_of_taken}
use Rattle.point_laws.proofs.laws.prefix_of_taken.Goals as goal

pub returns : goal.returns
returns c = prefix_of_taken
