use Rattle.branching.proofs.Meant.{most_has_most}
use Rattle.branching.proofs.laws.most_edges_are_most.Goals as goal

pub returns : goal.returns
returns c = most_has_most
