use Rattle.level_laws.proofs.Examples.{allows_lost_update}
use Rattle.level_laws.proofs.laws.allows_lost_update.Goals as goal

pub returns : goal.returns
returns c = allows_lost_update
