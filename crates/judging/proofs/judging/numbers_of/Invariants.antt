use Rattle.judging.proofs.Prelude.{◌≡◌, take}
use Rattle.judging.proofs.judging.numbers_of.Given as goal

abbrev pub invariant-loop-node : goal.invariant-loop-node
invariant-loop-node l = l.numbers.items ≡ take l.node-index l.node-items
