use Rattle.log_definitions.proofs.Nodes.{nodes_of_serial}
use Rattle.solve_command.proofs.solution.solution_text.Goals as goal

pub serial_text-requires : goal.serial_text-requires
serial_text-requires c = record { nodes = nodes_of_serial c.args.history.now c.in-Serial.order (rw c.in-Serial.is at c.requires.serial) }
