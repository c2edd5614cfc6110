use Rattle.proof_checks.proofs.Prelude.{Entails, drat_steps_in, HasRounds, GoesOn, length}
use Rattle.proof_checks.proofs.drat.take_steps.Given as goal

abbrev pub invariant-loop-drat : goal.invariant-loop-drat
invariant-loop-drat l = record {
  follows : Entails l.fn.checker.clauses l.checker.clauses;
  rounds : HasRounds l.drat.marks;
  goes : GoesOn (drat_steps_in l.binary l.variables l.proof) l.steps l.fn.checker.clauses l.checker.clauses;
}

abbrev pub decreases-loop-drat : goal.decreases-loop-drat
decreases-loop-drat l = length l.steps
