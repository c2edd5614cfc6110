use Rattle.log_definitions.proofs.Scanning.{rules_where_no_fault, no_fault_where_rules}
use Rattle.log_definitions.proofs.laws.distinct_in_words.Goals as goal

pub returns : goal.returns
returns c = λ ss. (rules_where_no_fault 1 ss, no_fault_where_rules 1 ss)
