use Rattle.refutation.proofs.Prelude.{◌≡◌, length, drop, hinted, with_false, all_open}
use Rattle.refutation.proofs.hints.take_step.Given as goal

abbrev pub invariant-loop-hint : goal.invariant-loop-hint
invariant-loop-hint l = record {
  clauses : l.checker.clauses ≡ l.fn.checker.clauses;
  step : l.checker.step ≡ l.step;
  known : length l.checker.known ≡ length l.fn.checker.known;
  rest : hinted (drop l.hint-index l.hints) l.checker.clauses l.checker.known
      ≡ hinted l.hints l.fn.checker.clauses (with_false l.step (all_open (length l.fn.checker.known)));
}
