use Rattle.session_history.proofs.Prelude.{[], AreReads}
use Rattle.session_history.proofs.reads.no_reads.Given as goal

abbrev pub invariant-loop-i : goal.invariant-loop-i
invariant-loop-i l = AreReads l.i (λ _. []) l.reads.items
