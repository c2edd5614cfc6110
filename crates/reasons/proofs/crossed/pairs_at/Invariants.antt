use Rattle.reasons.proofs.Prelude.{log_of, ArePairs}
use Rattle.reasons.proofs.crossed.pairs_at.Given as goal

abbrev pub invariant-loop-number : goal.invariant-loop-number
invariant-loop-number l = ArePairs (log_of l.history) l.key l.number l.pairs.items
