use Rattle.order_cnf.proofs.Prelude.{sym, ◌∙◌, arith}
use Rattle.order_cnf.proofs.Walks.{next_second, next_first, no_more}
use Rattle.order_cnf.proofs.triples.Cursor.settle.Goals as goal

pub loop-self-preserved-then-self-end : goal.loop-self-preserved-then-self-end
loop-self-preserved-then-self-end c =
    let s = c.loop-self.self in
    let k = c.loop-self.invariant.cursor in
    record {
      cursor = record {
        few = k.few;
        ascend = λ lt. (omega (arith, k.first), omega arith);
        first = omega (arith, k.first);
        second = omega (arith, c.if-self-end.true);
        third = omega (arith, c.if-self-end.true);
      };
      same = λ r e. next_second r c.args.end s.first s.second s.third e c.loop-self-test.true c.if-self-end.true ∙ c.loop-self.invariant.same r e;
      steps = omega (arith, c.loop-self.invariant.steps, k.second, k.third, k.few, c.if-self-end.true);
    }

pub loop-self-preserved : goal.loop-self-preserved
loop-self-preserved c =
    let s = c.loop-self.self in
    let k = c.loop-self.invariant.cursor in
    record {
      cursor = record {
        few = k.few;
        ascend = λ lt. absurd (omega (arith, lt));
        first = omega arith;
        second = omega (arith, c.if-self-end-2.true);
        third = omega arith;
      };
      same = λ r e. next_first r c.args.end s.first s.second s.third e c.loop-self-test.true (omega (arith, c.if-self-end.false)) c.if-self-end-2.true ∙ c.loop-self.invariant.same r e;
      steps = omega (arith, c.loop-self.invariant.steps, k.first, k.second, k.third, k.few, c.if-self-end-2.true, c.loop-self-test.true);
    }

pub returns-else-self-end-2-clause-none : goal.returns-else-self-end-2-clause-none
returns-else-self-end-2-clause-none c = λ t r e.
    let s = c.loop-self.self in
    sym (c.loop-self.invariant.same r e)
    ∙ no_more r c.args.end s.first s.second s.third e c.loop-self-test.true (omega (arith, c.if-self-end.false)) (omega (arith, c.if-self-end-2.false))
