use Rattle.level_laws.proofs.Commits.{level_where_serial}
use Rattle.level_laws.proofs.laws.level_where_serial.Goals as goal

pub returns : goal.returns
returns c = level_where_serial
