use Rattle.log_definitions.proofs.FewNodes.{few_nodes}
use Rattle.log_definitions.proofs.laws.nodes_within_limit.Goals as goal

pub returns : goal.returns
returns c = few_nodes
