use Rattle.log_definitions.proofs.Taken.{needed_taken}
use Rattle.log_definitions.proofs.laws.needed_are_taken.Goals as goal

pub returns : goal.returns
returns c = needed_taken
