use Rattle.long_log_definitions.proofs.Texts.{long_where_well_formed, well_formed_where_small, fault_of_long}
use Rattle.long_log_definitions.proofs.laws.logs_within_the_limits.Goals as goal

pub returns : goal.returns
returns c = record { long = long_where_well_formed; short = well_formed_where_small; fault = fault_of_long }
