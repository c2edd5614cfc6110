use Rattle.pruning_laws.proofs.Pruned.{fits_pruned, pruned_fits}
use Rattle.pruning_laws.proofs.laws.pruning_keeps_each_order.Goals as goal

pub returns : goal.returns
returns c = λ p forced f order. (fits_pruned p forced f order, pruned_fits p forced order)
