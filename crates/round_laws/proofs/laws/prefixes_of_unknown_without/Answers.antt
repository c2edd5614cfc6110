use Rattle.round_laws.proofs.Prelude.{false}
use Rattle.round_laws.proofs.Many.{points}
use Rattle.round_laws.proofs.Unknown.{unknown_as_each}
use Rattle.round_laws.proofs.laws.prefixes_of_unknown_without.Goals as goal

pub returns : goal.returns
returns c = unknown_as_each (points false)
