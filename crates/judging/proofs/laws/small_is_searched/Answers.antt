use Rattle.judging.proofs.Small.{in_vain}
use Rattle.judging.proofs.laws.small_is_searched.Goals as goal

pub returns : goal.returns
returns c = in_vain
