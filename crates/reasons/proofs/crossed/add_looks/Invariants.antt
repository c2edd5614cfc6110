use Rattle.reasons.proofs.Prelude.{◌≡◌, ◌+◌, ◌-◌, ◌^◌, min, length, take, map, log_of, pair_of}
use Rattle.std.proofs.Common.{sum_by}
use Rattle.reasons.proofs.Pairs.{looks_by}
use Rattle.reasons.proofs.crossed.add_looks.Given as goal

abbrev pub invariant-loop-read : goal.invariant-loop-read
invariant-loop-read l = l.looks ≡ min (l.before + sum_by (looks_by (log_of l.history) (length l.reads)) (map pair_of (take l.read-index l.reads))) (2 ^ 64 - 1)
