use Rattle.branching.proofs.Prelude.{◌/◌, arith}
use Rattle.branching.proofs.NextBits.{none_past, found_first, none_first, past_first, found_later, none_more, none_all}
use Rattle.branching.proofs.bits.next_set.Goals as goal

pub returns-then-start-words-clause-none : goal.returns-then-start-words-clause-none
returns-then-start-words-clause-none c = none_past c.args.words.now c.args.from c.if-start-words.true

pub returns-then-word-ne0-clause-next : goal.returns-then-word-ne0-clause-next
returns-then-word-ne0-clause-next c = found_first c.args.words.now c.args.from (c.type_inv.words (c.args.from / 64)).fits c.if-word-ne0.true

pub loop-index-init : goal.loop-index-init
loop-index-init c = record { clear = none_first c.args.words.now c.args.from c.if-word-ne0.false; past = past_first c.args.from }

pub returns-then-words-index-ne0-clause-next : goal.returns-then-words-index-ne0-clause-next
returns-then-words-index-ne0-clause-next c =
    found_later c.args.words.now c.args.from c.loop-index.index (c.type_inv.words c.loop-index.index).fits c.if-words-index-ne0.true c.loop-index.invariant.past c.loop-index.invariant.clear

pub loop-index-preserved : goal.loop-index-preserved
loop-index-preserved c =
    let past = c.loop-index.invariant.past in
    record { clear = none_more c.args.words.now c.args.from c.loop-index.index c.if-words-index-ne0.false c.loop-index.invariant.clear; past = omega (arith, past) }

pub returns-clause-none : goal.returns-clause-none
returns-clause-none c = none_all c.args.words.now c.args.from c.loop-index.index c.loop-index-test.false c.loop-index.invariant.clear
