use Rattle.cobra_cli.proofs.OneFormula.{one_decoding}
use Rattle.cobra_cli.proofs.laws.one_decoding.Goals as goal

pub returns : goal.returns
returns c = one_decoding
