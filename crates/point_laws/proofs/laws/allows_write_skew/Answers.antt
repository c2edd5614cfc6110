use Rattle.point_laws.proofs.Examples.{allows_write_skew}
use Rattle.point_laws.proofs.laws.allows_write_skew.Goals as goal

pub returns : goal.returns
returns c = allows_write_skew
