use Rattle.round_laws.proofs.Prelude.{false}
use Rattle.round_laws.proofs.Snapshots.{points_of_rounds}
use Rattle.round_laws.proofs.laws.prefixes_of_rounds.Goals as goal

pub returns : goal.returns
returns c = points_of_rounds false
