use Rattle.long_log_definitions.proofs.Texts.{numbers_where_no_fault, no_fault_where_numbers}
use Rattle.long_log_definitions.proofs.laws.own_numbers_in_words.Goals as goal

pub returns : goal.returns
returns c = λ n ss. (numbers_where_no_fault n ss, no_fault_where_numbers n ss)
