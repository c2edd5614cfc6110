use Rattle.level_laws.proofs.Examples.{splits_view}
use Rattle.level_laws.proofs.laws.splits_view.Goals as goal

pub returns : goal.returns
returns c = splits_view
