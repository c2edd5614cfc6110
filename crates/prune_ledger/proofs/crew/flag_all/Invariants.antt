use Rattle.prune_ledger.proofs.Prelude.{take}
use Rattle.prune_ledger.proofs.Flags.{Flagged}
use Rattle.prune_ledger.proofs.crew.flag_all.Given as goal

abbrev pub invariant-loop-choice : goal.invariant-loop-choice
invariant-loop-choice l = Flagged l.fn.flags l.flags (take l.choice-index l.passed)
