use Rattle.round_laws.proofs.Prelude.{false}
use Rattle.round_laws.proofs.Many.{points, each_of_run}
use Rattle.round_laws.proofs.laws.prefixes_of_run.Goals as goal

pub returns : goal.returns
returns c = each_of_run (points false)
