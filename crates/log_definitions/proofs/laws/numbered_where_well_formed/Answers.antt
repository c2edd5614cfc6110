use Rattle.log_definitions.proofs.Numbered.{numbered}
use Rattle.log_definitions.proofs.laws.numbered_where_well_formed.Goals as goal

pub returns : goal.returns
returns c = numbered
