use Rattle.log_definitions.proofs.Taken.{resolved_is, taken_closed, taken_least}
use Rattle.log_definitions.proofs.laws.taken_are_least.Goals as goal

pub returns : goal.returns
returns c = record { resolved = resolved_is; closed = taken_closed; least = taken_least }
