use Rattle.proof_checks.proofs.Prelude.{◌≡◌, length, [], Entails, lrat_steps, lrat_fault, IsKept, proof_of}
use Rattle.proof_checks.proofs.lrat.take_steps.Given as goal

abbrev pub invariant-loop-lrat : goal.invariant-loop-lrat
invariant-loop-lrat l = record {
  follows : Entails l.fn.checker.clauses l.checker.clauses;
  kept : IsKept l.lrat;
  known : length l.checker.known ≡ length l.fn.checker.known;
  fault : lrat_fault (length l.fn.checker.known) (lrat_steps l.variables l.proof) (proof_of l.fn.checker []) ≡ lrat_fault (length l.checker.known) l.steps (proof_of l.checker l.lrat.added.items);
}

abbrev pub decreases-loop-lrat : goal.decreases-loop-lrat
decreases-loop-lrat l = length l.steps
