use Rattle.reach_laws.proofs.Walks.{cycle_listed, cycle_from}
use Rattle.reach_laws.proofs.laws.cyclic_exactly_where_a_cycle.Goals as goal

pub returns : goal.returns
returns c = λ edges. (cycle_listed edges, cycle_from edges)
