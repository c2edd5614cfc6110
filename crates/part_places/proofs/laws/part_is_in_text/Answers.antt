use Rattle.part_places.proofs.Whole.{in_text}
use Rattle.part_places.proofs.laws.part_is_in_text.Goals as goal

pub returns : goal.returns
returns c = λ text ss legal same known flags session place t row h. in_text text ss legal same known flags session place t row h
