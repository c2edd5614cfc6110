use Rattle.level_laws.proofs.Commits.{level_where_prefix}
use Rattle.level_laws.proofs.laws.level_where_prefix.Goals as goal

pub returns : goal.returns
returns c = level_where_prefix
