use Rattle.chain_laws.proofs.OneChain.{in_some_chain, in_one_chain}
use Rattle.chain_laws.proofs.laws.each_writer_in_one_chain.Goals as goal

pub returns : goal.returns
returns c = record { some = in_some_chain; one = in_one_chain }
