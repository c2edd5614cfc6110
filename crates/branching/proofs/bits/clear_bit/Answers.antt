use Rattle.branching.proofs.NextBits.{bit_of-clear}
use Rattle.branching.proofs.bits.clear_bit.Goals as goal

pub returns-clause-bits : goal.returns-clause-bits
returns-clause-bits c = bit_of-clear c.args.words.now c.args.number c.requires.within
