use Rattle.pruning_laws.proofs.Pruned.{dead_from, dead_cycle}
use Rattle.pruning_laws.proofs.laws.dead_exactly_where_forced_edges_are_cyclic.Goals as goal

pub returns : goal.returns
returns c = λ p forced f. (dead_cycle p forced f, dead_from p forced f)
