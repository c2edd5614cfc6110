use Rattle.judging.proofs.Prelude.{nodes_stay}
use Rattle.judging.proofs.Resolved.{serial_resolved, serial_of_resolved, log_resolved}
use Rattle.judging.proofs.laws.resolved_is_the_same.Goals as goal

pub returns : goal.returns
returns c = record {
  orders = λ ss order. ((λ h. serial_resolved ss order h), λ h. serial_of_resolved ss order h);
  nodes = nodes_stay;
  log = log_resolved;
}
