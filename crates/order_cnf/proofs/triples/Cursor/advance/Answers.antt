use Rattle.order_cnf.proofs.Prelude.{◌+◌, ap, sym, ◌∙◌, arith}
use Rattle.order_cnf.proofs.Skipped.{moved_on, moved_to_end}
use Rattle.order_cnf.proofs.triples.Cursor.advance.Goals as goal

pub returns-in-Some-clause-same : goal.returns-in-Some-clause-same
returns-in-Some-clause-same c =
    let r = c.args.relation.now in
    let s = c.settle.new.self in
    let end = ap (λ n. n + 1) (sym c.nodes-end.ensures.count) in
    moved_on r s.first s.second s.third c.in-Some.third c.in-Some.ensures.passed ∙ c.settle.ensures.same r end ∙ c.loop-third.invariant.same

pub loop-third-preserved : goal.loop-third-preserved
loop-third-preserved c =
    let r = c.args.relation.now in
    let s = c.settle.new.self in
    let k = c.settle.ensures.cursor in
    let end = ap (λ n. n + 1) (sym c.nodes-end.ensures.count) in
    record {
      cursor = record {
        few = k.few;
        ascend = λ lt. absurd (omega (arith, lt));
        first = k.first;
        second = k.second;
        third = omega arith;
      };
      same = moved_to_end r s.first s.second s.third (c.nodes-end.result + 1) (omega (arith, end)) c.in_default.ensures.none ∙ c.settle.ensures.same r end ∙ c.loop-third.invariant.same;
      steps = omega (arith, c.loop-third.invariant.steps, c.settle.ensures.steps, k.third);
    }
