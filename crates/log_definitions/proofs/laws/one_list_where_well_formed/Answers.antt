use Rattle.log_definitions.proofs.Refused.{one_list}
use Rattle.log_definitions.proofs.laws.one_list_where_well_formed.Goals as goal

pub returns : goal.returns
returns c = one_list
