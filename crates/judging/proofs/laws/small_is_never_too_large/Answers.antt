use Rattle.judging.proofs.Small.{never_too_large}
use Rattle.judging.proofs.laws.small_is_never_too_large.Goals as goal

pub returns : goal.returns
returns c = never_too_large
