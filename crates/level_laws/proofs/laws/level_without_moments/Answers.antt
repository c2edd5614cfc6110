use Rattle.level_laws.proofs.Timeless.{level_without_moments}
use Rattle.level_laws.proofs.laws.level_without_moments.Goals as goal

pub returns : goal.returns
returns c = level_without_moments
