use Rattle.level_laws.proofs.Examples.{splits_atomic}
use Rattle.level_laws.proofs.laws.splits_atomic.Goals as goal

pub returns : goal.returns
returns c = splits_atomic
