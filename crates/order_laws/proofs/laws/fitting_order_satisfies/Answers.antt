use Rattle.order_laws.proofs.Assigned.{fitting_satisfies}
use Rattle.order_laws.proofs.laws.fitting_order_satisfies.Goals as goal

pub returns : goal.returns
returns c = fitting_satisfies
