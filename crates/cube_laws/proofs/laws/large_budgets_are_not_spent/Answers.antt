use Rattle.cube_laws.proofs.Counted.{budget_lasts}
use Rattle.cube_laws.proofs.laws.large_budgets_are_not_spent.Goals as goal

pub returns : goal.returns
returns c = λ p budget history legal large live. budget_lasts p budget history large live
