use Rattle.round_laws.proofs.Prelude.{false}
use Rattle.round_laws.proofs.Many.{points, run_of_each}
use Rattle.round_laws.proofs.laws.prefix_of_rounds.Goals as goal

pub returns : goal.returns
returns c = run_of_each (points false)
