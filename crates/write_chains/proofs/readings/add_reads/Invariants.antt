use Rattle.write_chains.proofs.Prelude.{◌≡◌, ℕ, List, ◌++◌, length, take, AreLists, readings_by, Reading}
use Rattle.write_chains.proofs.readings.add_reads.Given as goal

abbrev pub invariant-loop-read : goal.invariant-loop-read
invariant-loop-read l = record {
  count : length l.readings ≡ length l.initial.readings;
  added : (n : ℕ) (f : ℕ → List Reading) → AreLists n f l.initial.readings → AreLists n (λ x. f x ++ readings_by l.reader x (take l.read-index l.reads)) l.readings;
}
