use Rattle.reasons.proofs.Prelude.{sym, subst, take, take_all, get, front_more, pair_cmp, triple_cmp}
use Rattle.reasons.proofs.Squares.{IsMet, entered, none_met}
use Rattle.reasons.proofs.crossed.square_with.Goals as goal

pub loop-pair-preserved : goal.loop-pair-preserved
loop-pair-preserved c =
    let pairs = c.args.pairs.now in
    let readers = get triple_cmp c.args.readers.now in
    let i = c.loop-pair.pair-index in
    let p = c.pair-item.result in
    let new = get pair_cmp c.enter.new.met in
    subst (λ l. IsMet pairs readers c.args.version l new) (sym (front_more pairs i p c.loop-pair-test.true c.pair-item.is))
    (entered pairs readers c.requires.readers c.args.version (take i pairs) p c.in-Some.now (get pair_cmp c.loop-pair.met) new (i, c.loop-pair-test.true, sym c.pair-item.is) c.in-Some.ensures (rw c.in_default-other.is at c.in_ok-other.ensures.entered) c.loop-pair.invariant)

pub returns-clause-none : goal.returns-clause-none
returns-clause-none c =
    let pairs = c.args.pairs.now in
    let readers = get triple_cmp c.args.readers.now in
    let met = get pair_cmp c.loop-pair.met in
    none_met pairs readers c.requires.readers c.args.version met (subst (λ l. IsMet pairs readers c.args.version l met) (take_all c.loop-pair.pair-index pairs c.loop-pair-test.false) c.loop-pair.invariant)
