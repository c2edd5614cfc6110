use Rattle.chain_laws.proofs.Closed.{closed_is_cycle, closed_key}
use Rattle.chain_laws.proofs.laws.closed_chain_is_a_cycle.Goals as goal

pub returns : goal.returns
returns c = record { cycle = closed_is_cycle; key = closed_key }
