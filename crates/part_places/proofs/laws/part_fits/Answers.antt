use Rattle.part_places.proofs.Whole.{fits}
use Rattle.part_places.proofs.laws.part_fits.Goals as goal

pub returns : goal.returns
returns c = λ known flags n ss. fits known flags n ss
