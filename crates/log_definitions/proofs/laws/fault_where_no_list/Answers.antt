use Rattle.log_definitions.proofs.Prelude.{size_fault, list_fault}
use Rattle.log_definitions.proofs.Refused.{fault_where_none, size_fault_named, list_fault_named}
use Rattle.log_definitions.proofs.laws.fault_where_no_list.Goals as goal

pub returns : goal.returns
returns c = fault_where_none size_fault list_fault size_fault_named list_fault_named
