use Rattle.log_definitions.proofs.Taken.{all_taken}
use Rattle.log_definitions.proofs.laws.closed_are_all_taken.Goals as goal

pub returns : goal.returns
returns c = all_taken
