use Rattle.cobra_cli.proofs.OneFormula.{one_encoding, one_counting}
use Rattle.cobra_cli.proofs.laws.one_text.Goals as goal

pub returns : goal.returns
returns c = record { encoding = one_encoding; counting = one_counting }
