use Rattle.branching.proofs.Meant.{least_has_fewest}
use Rattle.branching.proofs.laws.least_edges_are_fewest.Goals as goal

pub returns : goal.returns
returns c = least_has_fewest
