use Rattle.level_laws.proofs.OfPart.{some_level_of_part}
use Rattle.level_laws.proofs.laws.some_level_of_part.Goals as goal

pub returns : goal.returns
returns c = some_level_of_part
