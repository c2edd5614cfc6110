use Rattle.serializability.proofs.Serial.{serial_fits, fitting_serial}
use Rattle.serializability.proofs.laws.serial_exactly_when_fitting.Goals as goal

pub returns : goal.returns
returns c = λ log clean order. (serial_fits log clean order, fitting_serial log clean order)
