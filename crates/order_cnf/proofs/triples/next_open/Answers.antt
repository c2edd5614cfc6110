use Rattle.order_cnf.proofs.Prelude.{ap, ◌∙◌, arith, or_lt, row_len}
use Rattle.order_cnf.proofs.Skipped.{none_begun, none_more, next_found, none_found}
use Rattle.order_cnf.proofs.triples.next_open.Goals as goal

pub loop-place-init : goal.loop-place-init
loop-place-init c = none_begun c.args.relation.now c.args.i c.args.j c.args.from

pub returns-then-either-ne0 : goal.returns-then-either-ne0
returns-then-either-ne0 c =
    let a = c.open_from-one.result in
    let b = c.open_from-other.result in
    let found = next_found c.args.relation.now c.args.i c.args.j c.args.from c.loop-place.place a b c.open_from-one.ensures.word c.open_from-other.ensures.word (or_lt 64 a b (omega arith) (omega arith)) c.if-either-ne0.true c.loop-place.invariant in
    record { node = found.node; some = found.some; passed = found.passed; none = tt }

pub loop-place-preserved : goal.loop-place-preserved
loop-place-preserved c =
    none_more c.args.relation.now c.args.i c.args.j c.args.from c.loop-place.place c.open_from-one.result c.open_from-other.result c.open_from-one.ensures.word c.open_from-other.ensures.word c.if-either-ne0.false c.loop-place.invariant

pub returns-clause-none : goal.returns-clause-none
returns-clause-none c =
    none_found c.args.relation.now c.args.i c.args.j c.args.from c.loop-place.place c.row_len-place-end.result c.requires.within (c.row_len-place-end.ensures.value ∙ ap row_len c.nodes.ensures.count) c.loop-place-test.false c.loop-place.invariant
