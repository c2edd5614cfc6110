use Rattle.branching.proofs.Prelude.{◌*◌, ◌≤◌}
use Rattle.branching.proofs.NextBits.{ClearTo}
use Rattle.branching.proofs.bits.next_set.Given as goal

abbrev pub invariant-loop-index : goal.invariant-loop-index
invariant-loop-index l = record {
  clear : ClearTo l.words l.from (l.index * 64);
  past : l.from ≤ l.index * 64;
}
