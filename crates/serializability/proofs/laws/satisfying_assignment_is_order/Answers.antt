use Rattle.serializability.proofs.PlainLaws.{plain_is_order}
use Rattle.serializability.proofs.laws.satisfying_assignment_is_order.Goals as goal

pub returns : goal.returns
returns c = plain_is_order
