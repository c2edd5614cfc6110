use Rattle.polygraph.proofs.Prelude.{◌≡◌, ◌+◌, ◌++◌, drop, log_of, sources_of, up_to}
use Rattle.serializability.specs.Polygraph as spec
use Rattle.polygraph.proofs.Readers.{of_readers, of_reads}
use Rattle.polygraph.proofs.bipath.choices_of.Given as goal

abbrev pub invariant-loop-number : goal.invariant-loop-number
invariant-loop-number l = l.choices.items ++ of_readers (log_of l.history) (up_to l.number l.end) ≡ spec.bipaths (log_of l.history)

abbrev pub invariant-loop-read : goal.invariant-loop-read
invariant-loop-read l =
    let log = log_of l.history in
    l.choices.items ++ (of_reads log l.number (drop l.read-index (sources_of log l.number)) ++ of_readers log (up_to (l.number + 1) l.end)) ≡ spec.bipaths log
