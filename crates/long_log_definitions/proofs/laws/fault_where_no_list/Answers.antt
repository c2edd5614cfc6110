use Rattle.log_definitions.proofs.Refused.{fault_where_none}
use Rattle.long_log_definitions.specs.LongLog.{size_fault, list_fault}
use Rattle.long_log_definitions.proofs.Texts.{size_fault_named, list_fault_named}
use Rattle.long_log_definitions.proofs.laws.fault_where_no_list.Goals as goal

pub returns : goal.returns
returns c = fault_where_none size_fault list_fault size_fault_named list_fault_named
