use Rattle.level_laws.proofs.Forks.{splits_prefix}
use Rattle.level_laws.proofs.laws.splits_prefix.Goals as goal

pub returns : goal.returns
returns c = splits_prefix
