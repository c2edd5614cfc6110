use Rattle.branching.proofs.Refuting.{forced_means}
use Rattle.branching.proofs.laws.forced_choices_come_first.Goals as goal

pub returns : goal.returns
returns c = forced_means
