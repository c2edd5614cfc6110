use Rattle.reasons.proofs.Prelude.{◌≡◌, ◌-◌, ◌^◌, min, log_of}
use Rattle.reasons.proofs.Pairs.{looks_below}
use Rattle.reasons.proofs.crossed.looks_of.Given as goal

abbrev pub invariant-loop-number : goal.invariant-loop-number
invariant-loop-number l = l.looks ≡ min (looks_below (log_of l.history) l.number) (2 ^ 64 - 1)
