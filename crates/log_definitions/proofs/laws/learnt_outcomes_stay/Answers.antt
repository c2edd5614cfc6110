use Rattle.log_definitions.proofs.Settled.{learnt_resolved, settled_resolved}
use Rattle.log_definitions.proofs.laws.learnt_outcomes_stay.Goals as goal

pub returns : goal.returns
returns c = record { learnt = learnt_resolved; settled = settled_resolved }
