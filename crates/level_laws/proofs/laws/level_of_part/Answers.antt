use Rattle.level_laws.proofs.OfPart.{level_of_part}
use Rattle.level_laws.proofs.laws.level_of_part.Goals as goal

pub returns : goal.returns
returns c = level_of_part
