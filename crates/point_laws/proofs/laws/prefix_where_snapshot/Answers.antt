use Rattle.point_laws.proofs.Prefix.{prefix_where_snapshot}
use Rattle.point_laws.proofs.laws.prefix_where_snapshot.Goals as goal

pub returns : goal.returns
returns c = prefix_where_snapshot
