use Rattle.prune_ledger.proofs.Prelude.{◌≡◌, take}
use Rattle.prune_ledger.proofs.copies.copy_choices.Given as goal

abbrev pub invariant-loop-choice : goal.invariant-loop-choice
invariant-loop-choice l = l.copies.items ≡ take l.choice-index l.choices
