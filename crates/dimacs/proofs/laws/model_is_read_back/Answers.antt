use Rattle.dimacs.proofs.ReadBack.{model_fault, model_claims, model_values}
use Rattle.dimacs.proofs.laws.model_is_read_back.Goals as goal

pub returns-clause-fault : goal.returns-clause-fault
returns-clause-fault c = model_fault

pub returns-clause-status : goal.returns-clause-status
returns-clause-status c = model_claims

pub returns-clause-values : goal.returns-clause-values
returns-clause-values c = model_values
