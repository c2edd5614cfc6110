use Rattle.reason_laws.proofs.Kept.{serial, none_crossed}
use Rattle.reason_laws.proofs.laws.crossed_reads_rule_out_orders.Goals as goal

pub returns : goal.returns
returns c = record { none = λ ss order well is. none_crossed ss order (serial ss order well is) }
