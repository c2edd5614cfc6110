use Rattle.point_laws.proofs.Examples.{refuses_lost_update}
use Rattle.point_laws.proofs.laws.refuses_lost_update.Goals as goal

pub returns : goal.returns
returns c = refuses_lost_update
