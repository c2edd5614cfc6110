use Rattle.proof_checks.proofs.Reaching.{visited}
use Rattle.proof_checks.proofs.plain.pass.Goals as goal

pub loop-number-preserved : goal.loop-number-preserved
loop-number-preserved c = record {
  marking = c.in_ok-visit.ensures.marking;
  passes = λ d a. visited c.args.checker.now.clauses d c.args.made_false.now.items c.loop-number.made_false.items c.visit.new.made_false.items c.args.numbers.now c.loop-number.kept.items c.visit.new.kept.items c.loop-number.number-index _ c.in_ok-visit.field-0 c.loop-number-test.true
      (c.in_ok-visit.ensures.visits d (c.loop-number.invariant.passes d a).keeps.are_false) c.if-branch.false (c.loop-number.invariant.passes d a);
}
