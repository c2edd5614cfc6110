use Rattle.level_laws.proofs.Commits.{level_where_snapshot}
use Rattle.level_laws.proofs.laws.level_where_snapshot.Goals as goal

pub returns : goal.returns
returns c = level_where_snapshot
