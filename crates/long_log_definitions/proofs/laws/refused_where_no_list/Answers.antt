use Rattle.log_definitions.proofs.Refused.{refused}
use Rattle.long_log_definitions.proofs.laws.refused_where_no_list.Goals as goal

pub returns : goal.returns
returns c = refused
