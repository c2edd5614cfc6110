use Rattle.anomaly_laws.proofs.Serial.{no_order}
use Rattle.anomaly_laws.proofs.laws.no_serial_order_with_an_anomaly.Goals as goal

pub returns : goal.returns
returns c = record { none = no_order }
