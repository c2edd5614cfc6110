use Rattle.pruning_laws.proofs.Pruned.{none_fits}
use Rattle.pruning_laws.proofs.laws.no_order_fits_where_dead.Goals as goal

pub returns : goal.returns
returns c = none_fits
