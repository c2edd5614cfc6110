use Rattle.long_reading.proofs.Prelude.{◌≡◌, ◌+◌, ◌++◌, length, flat_map}
use Rattle.long_reading.proofs.shares.shares.Given as goal

abbrev pub invariant-loop-worker : goal.invariant-loop-worker
invariant-loop-worker l = record {
  count : length l.parts.items + 1 ≡ l.worker;
  whole : flat_map (λ part. part.now) l.parts.items ++ l.rest ≡ l.fn.blocks;
}
