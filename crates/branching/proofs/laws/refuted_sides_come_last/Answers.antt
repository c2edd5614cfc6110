use Rattle.branching.proofs.Refuting.{left_means}
use Rattle.branching.proofs.laws.refuted_sides_come_last.Goals as goal

pub returns : goal.returns
returns c = left_means
