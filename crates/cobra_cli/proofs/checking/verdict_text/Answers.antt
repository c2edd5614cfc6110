use Rattle.cobra_cli.proofs.Prelude.{nodes_of_serial}
use Rattle.cobra_cli.proofs.checking.verdict_text.Goals as goal

pub serial_text-requires : goal.serial_text-requires
serial_text-requires c = record { nodes = nodes_of_serial c.args.history.now c.in-Serial.order (rw c.in-Serial.is at c.requires.decided.decides).0 }

pub anomaly_text-requires : goal.anomaly_text-requires
anomaly_text-requires c = record { reported = (rw c.in-Anomalous.is at c.requires.decided.decides).1 }

pub cycle_text-requires : goal.cycle_text-requires
cycle_text-requires c = record { known = rw c.deref.ensures.value (rw c.in-Cyclic.is at c.requires.decided.decides).1.cyclic.within }
