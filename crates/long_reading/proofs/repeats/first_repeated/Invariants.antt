use Rattle.long_reading.proofs.Sorting.{IsLeastPair}
use Rattle.long_reading.proofs.repeats.first_repeated.Given as goal

abbrev pub invariant-loop-i : goal.invariant-loop-i
invariant-loop-i l = IsLeastPair l.stated l.i l.first
