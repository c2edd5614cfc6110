use Rattle.level_laws.proofs.Ladder.{view_where_atomic}
use Rattle.level_laws.proofs.laws.view_where_atomic.Goals as goal

pub returns : goal.returns
returns c = view_where_atomic
