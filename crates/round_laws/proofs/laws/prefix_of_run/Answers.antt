use Rattle.round_laws.proofs.Prelude.{false}
use Rattle.round_laws.proofs.Snapshots.{points_of_run}
use Rattle.round_laws.proofs.laws.prefix_of_run.Goals as goal

pub returns : goal.returns
returns c = points_of_run false
