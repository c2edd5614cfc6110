use Rattle.order_cnf.proofs.Prelude.{ap, sym, arith, ◌+◌, length, false≢true, cursor_left}
use Rattle.order_cnf.proofs.Walks.{begun, row_counted}
use Rattle.order_cnf.proofs.triples.count_triples.Goals as goal

pub loop-cursor-init : goal.loop-cursor-init
loop-cursor-init c = record {
  cursor = record {
    few = omega (arith, c.nodes-end.ensures.few);
    ascend = λ lt. absurd (omega (arith, lt));
    first = omega arith;
    second = omega (arith, c.requires.within, c.nodes-end.ensures.count);
    third = omega arith;
  };
  counted = omega (arith, ap length (begun c.args.relation.now c.args.start (c.nodes-end.result + 1) c.requires.within (ap (λ n. n + 1) c.nodes-end.ensures.count)));
  few = omega arith;
}

pub returns-then-count-most-clause-none : goal.returns-then-count-most-clause-none
returns-then-count-most-clause-none c =
    let r = c.args.relation.now in
    let s = c.settle.new.self in
    let end = ap (λ n. n + 1) c.nodes-end.ensures.count in (
      λ h. absurd (false≢true h),
      λ le. absurd (omega (
        arith,
        le,
        c.if-count-most.true,
        row_counted r s.first s.second s.third (c.nodes-end.result + 1) c.row_count-count.result (length (cursor_left r c.loop-cursor.cursor)) c.loop-cursor.count _ end c.row_count-count.ensures.value (ap length (c.settle.ensures.same r (sym end))) c.loop-cursor.invariant.counted,
      )),
    )

pub loop-cursor-preserved : goal.loop-cursor-preserved
loop-cursor-preserved c =
    let r = c.args.relation.now in
    let s = c.settle.new.self in
    let k = c.settle.ensures.cursor in
    let end = ap (λ n. n + 1) c.nodes-end.ensures.count in
    record {
      cursor = record {
        few = k.few;
        ascend = λ lt. absurd (omega (arith, lt));
        first = k.first;
        second = k.second;
        third = omega arith;
      };
      counted = row_counted r s.first s.second s.third (c.nodes-end.result + 1) c.row_count-count.result (length (cursor_left r c.loop-cursor.cursor)) c.loop-cursor.count _ end c.row_count-count.ensures.value (ap length (c.settle.ensures.same r (sym end))) c.loop-cursor.invariant.counted;
      few = omega (arith, c.if-count-most.false);
    }
