use Rattle.write_chains.proofs.Prelude.{[], AreLists}
use Rattle.write_chains.proofs.lists.empty_lists.Given as goal

abbrev pub invariant-loop-i : goal.invariant-loop-i
invariant-loop-i g l = AreLists l.i (λ _. []) l.lists.items
