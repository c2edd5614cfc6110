use Rattle.point_laws.proofs.Fresh.{some_are_fresh}
use Rattle.point_laws.proofs.laws.some_are_fresh.Goals as goal

pub returns : goal.returns
returns c = some_are_fresh
