use Rattle.round_laws.proofs.Prelude.{false}
use Rattle.round_laws.proofs.Many.{points}
use Rattle.round_laws.proofs.Unknown.{each_of_unknown}
use Rattle.round_laws.proofs.laws.prefixes_of_unknown.Goals as goal

pub returns : goal.returns
returns c = each_of_unknown (points false)
