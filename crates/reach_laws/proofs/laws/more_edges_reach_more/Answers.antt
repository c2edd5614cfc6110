use Rattle.reach_laws.proofs.Walks.{reach_in}
use Rattle.reach_laws.proofs.laws.more_edges_reach_more.Goals as goal

pub returns : goal.returns
returns c = reach_in
