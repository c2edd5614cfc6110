use Rattle.pruning_laws.proofs.Pruned.{forced_both_ways}
use Rattle.pruning_laws.proofs.laws.forced_exactly_where_other_refuted.Goals as goal

pub returns : goal.returns
returns c = forced_both_ways
