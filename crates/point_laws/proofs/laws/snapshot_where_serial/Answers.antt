use Rattle.point_laws.proofs.Doubled.{snapshot_where_serial}
use Rattle.point_laws.proofs.laws.snapshot_where_serial.Goals as goal

pub returns : goal.returns
returns c = snapshot_where_serial
