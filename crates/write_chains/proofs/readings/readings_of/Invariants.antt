use Rattle.write_chains.proofs.Prelude.{◌-◌, range_with_len, log_of, AreLists, readings_among}
use Rattle.write_chains.proofs.readings.readings_of.Given as goal

abbrev pub invariant-loop-number : goal.invariant-loop-number
invariant-loop-number l = AreLists (log_of l.history).keys (λ x. readings_among (log_of l.history) x (range_with_len 1 (l.number - 1))) l.lists
