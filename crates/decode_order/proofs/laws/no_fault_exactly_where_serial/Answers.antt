use Rattle.decode_order.proofs.Whole.{fault_serial, serial_where_no_fault}
use Rattle.decode_order.proofs.laws.no_fault_exactly_where_serial.Goals as goal

pub returns : goal.returns
returns c = λ log order. (serial_where_no_fault log order, fault_serial log order)
