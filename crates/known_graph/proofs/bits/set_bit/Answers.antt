use Rattle.known_graph.proofs.Words.{bit_of-set}
use Rattle.known_graph.proofs.bits.set_bit.Goals as goal

pub returns-clause-bits : goal.returns-clause-bits
returns-clause-bits c = bit_of-set c.args.words.now c.args.number c.requires.within
