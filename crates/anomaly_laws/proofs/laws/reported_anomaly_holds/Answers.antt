use Rattle.anomaly_laws.proofs.Prelude.{Unknown, Aborted, Intermediate, OwnWriteMissed, Future, Split}
use Rattle.anomaly_laws.proofs.Meaning.{kind_holds, no_read_earlier, both_update, no_read_beside}
use Rattle.anomaly_laws.proofs.laws.reported_anomaly_holds.Goals as goal

pub returns : goal.returns
returns c = record {
  unknown = λ log. kind_holds log Unknown;
  aborted = λ log. kind_holds log Aborted;
  intermediate = λ log. kind_holds log Intermediate;
  own_write_missed = λ log. kind_holds log OwnWriteMissed;
  future = λ log. kind_holds log Future;
  split = λ log. kind_holds log Split;
  first = no_read_earlier;
  lost_update = both_update;
  reads_first = no_read_beside;
}
