use Rattle.log_definitions.proofs.Renaming.{serial_numbered, serial_by_keys}
use Rattle.log_definitions.proofs.laws.serial_by_number.Goals as goal

pub returns : goal.returns
returns c = λ ss order. (serial_numbered ss order, serial_by_keys ss order)
