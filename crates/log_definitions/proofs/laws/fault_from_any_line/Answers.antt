use Rattle.log_definitions.proofs.Scanning.{rules_where_no_fault, no_fault_where_rules}
use Rattle.log_definitions.proofs.laws.fault_from_any_line.Goals as goal

pub returns : goal.returns
returns c = λ n m ss. ((λ e. no_fault_where_rules m ss (rules_where_no_fault n ss e)), λ e. no_fault_where_rules n ss (rules_where_no_fault m ss e))
