use Rattle.order_laws.proofs.Same.{one_forced}
use Rattle.order_laws.proofs.laws.one_forced_set.Goals as goal

pub returns : goal.returns
returns c = one_forced
