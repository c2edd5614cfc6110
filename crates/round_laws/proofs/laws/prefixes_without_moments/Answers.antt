use Rattle.round_laws.proofs.Prelude.{false}
use Rattle.round_laws.proofs.Many.{points}
use Rattle.round_laws.proofs.Timeless.{run_as_each}
use Rattle.round_laws.proofs.laws.prefixes_without_moments.Goals as goal

pub returns : goal.returns
returns c = run_as_each (points false)
