use Rattle.reach_laws.proofs.Walks.{reach_joined}
use Rattle.reach_laws.proofs.laws.reach_is_transitive.Goals as goal

pub returns : goal.returns
returns c = reach_joined
