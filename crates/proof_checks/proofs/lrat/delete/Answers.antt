use Rattle.proof_checks.proofs.Prelude.{refl, ◌∙◌, length, entails_same, entails_then}
use Rattle.proof_checks.proofs.Places.{opened, without_step}
use Rattle.proof_checks.proofs.lrat.delete.Goals as goal

pub loop-number-init : goal.loop-number-init
loop-number-init c = record { follows = entails_same _ _ refl; known = refl; rest = refl }

pub loop-number-preserved : goal.loop-number-preserved
loop-number-preserved c = record {
  follows = entails_then c.args.checker.now.clauses c.loop-number.checker.clauses c.forget.new.self.clauses c.loop-number.invariant.follows c.forget.ensures.follows;
  known = opened (length c.loop-number.checker.known) c.forget.new.self.known c.forget.ensures.known ∙ c.loop-number.invariant.known;
  rest = without_step c.args.numbers.now c.loop-number.number-index c.loop-number.checker.clauses c.forget.new.self.clauses _ c.loop-number-test.true c.loop-number.invariant.rest c.forget.ensures.clauses;
}
