use Rattle.long_reading.proofs.Prelude.{arith}
use Rattle.long_reading.proofs.Sorting.{one_pair_more, first_is}
use Rattle.long_reading.proofs.repeats.first_repeated.Goals as goal

pub loop-i-preserved : goal.loop-i-preserved
loop-i-preserved c = one_pair_more c.sort_unstable.new.self c.loop-i.i c.loop-i.first c.with_pair-first.result (omega arith) (omega arith) c.with_pair-first.ensures c.loop-i.invariant

pub returns : goal.returns
returns c = first_is c.args.stated.now c.sort_unstable.new.self c.loop-i.i c.loop-i.first c.sort_unstable.ensures.permutation c.sort_unstable.ensures.sorted c.requires (omega arith) c.loop-i.invariant
