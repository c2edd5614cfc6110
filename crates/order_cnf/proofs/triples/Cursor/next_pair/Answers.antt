use Rattle.order_cnf.proofs.Prelude.{refl, sym, ◌∙◌, arith}
use Rattle.order_cnf.proofs.Walks.{pair_first, pair_second, pair_none}
use Rattle.order_cnf.proofs.triples.Cursor.next_pair.Goals as goal

pub returns-then-is_some-clause-value : goal.returns-then-is_some-clause-value
returns-then-is_some-clause-value c =
    let r = c.args.relation.now in
    let s = c.advance.new.self in
    pair_first r s.first s.second s.third c.triple_clauses-one.result.0 c.triple_clauses-one.result.1 _ c.triple_clauses-one.ensures.value
    (omega (arith, c.loop-one-test.ensures.found refl)) (c.advance.ensures.same ∙ c.loop-one.invariant.same)

pub returns-then-is_some-2-clause-value : goal.returns-then-is_some-2-clause-value
returns-then-is_some-2-clause-value c =
    let r = c.args.relation.now in
    let s = c.advance.new.self in
    pair_second r s.first s.second s.third c.triple_clauses-one.result.0 c.triple_clauses-one.result.1 _ (sym c.is_some.ensures ∙ c.if-is_some.false) c.triple_clauses-one.ensures.value
    (omega (arith, c.loop-one-test.ensures.found refl)) (c.advance.ensures.same ∙ c.loop-one.invariant.same)

pub loop-one-preserved : goal.loop-one-preserved
loop-one-preserved c =
    let r = c.args.relation.now in
    let s = c.advance.new.self in
    let k = c.advance.ensures.cursor in
    let found = c.loop-one-test.ensures.found refl in
    record {
      cursor = record {
        few = k.few;
        ascend = λ lt. ((k.ascend (omega (arith, found))).0, omega (arith, (k.ascend (omega (arith, found))).1));
        first = k.first;
        second = k.second;
        third = omega (arith, found);
      };
      same = pair_none r s.first s.second s.third c.triple_clauses-one.result.0 c.triple_clauses-one.result.1 _ (sym c.is_some.ensures ∙ c.if-is_some.false) (sym c.is_some-in-loop-one.ensures ∙ c.if-is_some-2.false)
          c.triple_clauses-one.ensures.value (omega (arith, found)) (c.advance.ensures.same ∙ c.loop-one.invariant.same);
    }
