use Rattle.cobra_cli.proofs.OneFormula.{one_formula}
use Rattle.cobra_cli.proofs.laws.one_formula.Goals as goal

pub returns : goal.returns
returns c = one_formula
