use Rattle.chain_laws.proofs.Closed.{none_where_acyclic}
use Rattle.chain_laws.proofs.Maximal.{each_chain, only_chain}
use Rattle.chain_laws.proofs.laws.heads_and_tails_are_those_of_chains.Goals as goal

pub returns : goal.returns
returns c = record {
  each = λ log clean acyclic x key. each_chain log x (record { none = none_where_acyclic log clean acyclic x });
  only = λ log clean acyclic x key. only_chain log clean x (record { none = none_where_acyclic log clean acyclic x });
}
