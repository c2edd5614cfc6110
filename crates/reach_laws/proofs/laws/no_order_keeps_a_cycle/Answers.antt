use Rattle.reach_laws.proofs.Walks.{no_cycle_kept}
use Rattle.reach_laws.proofs.laws.no_order_keeps_a_cycle.Goals as goal

pub returns : goal.returns
returns c = no_cycle_kept
