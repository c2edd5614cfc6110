use Rattle.level_laws.proofs.OfPart.{level_of_taken}
use Rattle.level_laws.proofs.laws.level_of_taken.Goals as goal

pub returns : goal.returns
returns c = level_of_taken
