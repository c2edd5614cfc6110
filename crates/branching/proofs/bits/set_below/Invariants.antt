use Rattle.branching.proofs.NextBits.{AreFull}
use Rattle.branching.proofs.bits.set_below.Given as goal

abbrev pub invariant-loop-index : goal.invariant-loop-index
invariant-loop-index l = AreFull l.words l.index
