use Rattle.level_laws.proofs.Ladder.{committed_where_view}
use Rattle.level_laws.proofs.laws.committed_where_view.Goals as goal

pub returns : goal.returns
returns c = committed_where_view
