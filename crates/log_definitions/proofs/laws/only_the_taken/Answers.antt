use Rattle.log_definitions.proofs.OnlyTaken.{serial_where_distinct, some_where_serial}
use Rattle.log_definitions.proofs.laws.only_the_taken.Goals as goal

pub returns : goal.returns
returns c = λ ss legal writes. (serial_where_distinct ss legal writes, some_where_serial ss)
