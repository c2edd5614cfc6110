use Rattle.pruning_laws.proofs.Same.{same_both}
use Rattle.pruning_laws.proofs.laws.known_edges_are_a_set.Goals as goal

pub returns : goal.returns
returns c = same_both
