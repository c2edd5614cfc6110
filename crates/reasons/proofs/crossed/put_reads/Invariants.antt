use Rattle.reasons.proofs.Prelude.{◌≡◌, ◌++◌, map, take, pair_of, pairs_by}
use Rattle.reasons.proofs.crossed.put_reads.Given as goal

abbrev pub invariant-loop-read : goal.invariant-loop-read
invariant-loop-read l = l.pairs.items ≡ l.fn.pairs.items ++ pairs_by l.reader l.version (map pair_of (take l.read-index l.reads))
