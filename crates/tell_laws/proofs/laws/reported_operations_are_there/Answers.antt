use Rattle.tell_laws.proofs.Anomalies.{reported_read, reported_updates}
use Rattle.tell_laws.proofs.laws.reported_operations_are_there.Goals as goal

pub returns : goal.returns
returns c = record { read = reported_read; updates = reported_updates }
