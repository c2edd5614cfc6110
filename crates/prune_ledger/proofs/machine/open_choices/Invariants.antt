use Rattle.prune_ledger.proofs.Prelude.{◌≡◌, ◌+◌, ◌++◌, drop, length, unrefused}
use Rattle.prune_ledger.proofs.machine.open_choices.Given as goal

abbrev pub invariant-loop-choice : goal.invariant-loop-choice
invariant-loop-choice l = (l.open.items ++ unrefused (drop l.number l.marks) l.choice-iterator.rest.items ≡ unrefused l.marks l.fn.choices.items) × (l.number + length l.choice-iterator.rest.items ≡ length l.marks)
