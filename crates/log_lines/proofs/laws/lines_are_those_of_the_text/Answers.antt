use Rattle.log_lines.proofs.Own.{own_row_of, own_begin, own_operation, own_end}
use Rattle.log_lines.proofs.laws.lines_are_those_of_the_text.Goals as goal

pub returns : goal.returns
returns c = record { place = λ n ss session place t row h. (own_row_of n ss session place t row h).stands; begin = own_begin; operation = own_operation; end = own_end }
