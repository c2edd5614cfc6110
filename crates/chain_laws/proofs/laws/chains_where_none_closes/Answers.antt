use Rattle.chain_laws.proofs.Maximal.{each_chain, only_chain}
use Rattle.chain_laws.proofs.laws.chains_where_none_closes.Goals as goal

pub returns : goal.returns
returns c = record { each = λ log clean x none. each_chain log x none; only = only_chain }
