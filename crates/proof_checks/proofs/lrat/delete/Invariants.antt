use Rattle.proof_checks.proofs.Prelude.{◌≡◌, length, drop, Entails, without}
use Rattle.proof_checks.proofs.lrat.delete.Given as goal

abbrev pub invariant-loop-number : goal.invariant-loop-number
invariant-loop-number l = record {
  follows : Entails l.fn.checker.clauses l.checker.clauses;
  known : length l.checker.known ≡ length l.fn.checker.known;
  rest : without (drop l.number-index l.numbers) l.checker.clauses ≡ without l.numbers l.fn.checker.clauses;
}
