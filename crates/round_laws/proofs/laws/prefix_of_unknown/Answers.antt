use Rattle.round_laws.proofs.Prelude.{false}
use Rattle.round_laws.proofs.Many.{points}
use Rattle.round_laws.proofs.Unknown.{run_of_unknown}
use Rattle.round_laws.proofs.laws.prefix_of_unknown.Goals as goal

pub returns : goal.returns
returns c = run_of_unknown (points false)
