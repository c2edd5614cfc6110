use Rattle.tell_reasons.proofs.First.{first_found}
use Rattle.tell_reasons.proofs.laws.first_operation_is_first.Goals as goal

pub returns : goal.returns
returns c = first_found
