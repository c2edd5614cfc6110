use Rattle.log_definitions.proofs.Refused.{one_list}
use Rattle.long_log_definitions.proofs.laws.one_list_where_long.Goals as goal

pub returns : goal.returns
returns c = one_list
