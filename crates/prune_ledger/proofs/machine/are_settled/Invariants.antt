use Rattle.prune_ledger.proofs.Flags.{SettledTo}
use Rattle.prune_ledger.proofs.machine.are_settled.Given as goal

abbrev pub invariant-loop-k : goal.invariant-loop-k
invariant-loop-k l = SettledTo l.k l.marks l.flags
