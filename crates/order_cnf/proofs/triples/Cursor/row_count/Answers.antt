use Rattle.order_cnf.proofs.Prelude.{◌+◌, ◌*◌, ◌/◌, ap, ◌∙◌, arith, row_len, is_open_from}
use Rattle.order_cnf.proofs.Counted.{count_in}
use Rattle.order_cnf.proofs.Cycles.{none_before, word_more, whole_row, row_most, row_begins, row_ended, few_counted}
use Rattle.order_cnf.proofs.triples.Cursor.row_count.Goals as goal

pub loop-place-init : goal.loop-place-init
loop-place-init c =
    let r = c.args.relation.now in
    let s = c.args.self.now in
    let start = s.third / 64 * 64 in
    record {
      counted = omega (arith, none_before r s.second s.first s.third start (row_begins s.third), none_before r s.first s.second s.third start (row_begins s.third));
    }

pub overflow_add-count-in-loop-place : goal.overflow_add-count-in-loop-place
overflow_add-count-in-loop-place c =
    let r = c.args.relation.now in
    let s = c.args.self.now in
    omega (
      arith,
      few_counted (is_open_from r s.second s.first s.third) (is_open_from r s.first s.second s.third) c.nodes.result c.loop-place.place c.loop-place.count c.open_from-one.result c.open_from-other.result c.nodes.ensures.few
          (omega (arith, c.loop-place-test.true, c.row_len-place-end.ensures.value)) (omega arith) (omega arith) c.loop-place.invariant.counted,
    )

pub loop-place-preserved : goal.loop-place-preserved
loop-place-preserved c =
    let r = c.args.relation.now in
    let s = c.args.self.now in
    record {
      counted = omega (
        arith,
        c.loop-place.invariant.counted,
        word_more (is_open_from r s.second s.first s.third) c.loop-place.place c.open_from-one.result (omega arith) c.open_from-one.ensures.word,
        word_more (is_open_from r s.first s.second s.third) c.loop-place.place c.open_from-other.result (omega arith) c.open_from-other.ensures.word,
      );
    }

pub returns-clause-value : goal.returns-clause-value
returns-clause-value c =
    let r = c.args.relation.now in
    let s = c.args.self.now in
    let last = row_ended r.nodes s.third c.loop-place.place c.row_len-place-end.result (omega (arith, c.requires.found)) (c.row_len-place-end.ensures.value ∙ ap row_len c.nodes.ensures.count) c.loop-place.auto.place-end c.loop-place-test.false in
    c.loop-place.invariant.counted
    ∙ ap (λ n. count_in (is_open_from r s.second s.first s.third) 0 n + count_in (is_open_from r s.first s.second s.third) 0 n) last
    ∙ whole_row r s.first s.second s.third (omega (arith, c.requires.found))

pub returns-clause-few : goal.returns-clause-few
returns-clause-few c =
    let r = c.args.relation.now in
    let s = c.args.self.now in
    omega (arith, returns-clause-value c, row_most r s.first s.second s.third (omega (arith, c.requires.found)), c.requires.cursor.few)
