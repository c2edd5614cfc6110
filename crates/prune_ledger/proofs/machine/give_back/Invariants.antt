use Rattle.prune_ledger.proofs.Prelude.{◌≡◌}
use Rattle.prune_ledger.proofs.Flags.{given_part}
use Rattle.prune_ledger.proofs.machine.give_back.Given as goal

abbrev pub invariant-loop-k : goal.invariant-loop-k
invariant-loop-k l = l.marks ≡ given_part l.k l.fn.marks
