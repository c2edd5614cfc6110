use Rattle.branching.proofs.Prelude.{◌∙◌, arith, row_len}
use Rattle.branching.proofs.NextBits.{full_more, bits_below}
use Rattle.branching.proofs.bits.set_below.Goals as goal

pub bounds-words-index : goal.bounds-words-index
unfolding row_len
bounds-words-index c = let e = c.requires.len in let a = c.loop-index.auto.words in let t = c.loop-index-test.true in omega (arith, e, a, t)

pub loop-index-preserved : goal.loop-index-preserved
loop-index-preserved c = full_more c.loop-index.words c.loop-index.index (bounds-words-index c) c.loop-index.invariant

pub bounds-words-last : goal.bounds-words-last
unfolding row_len
bounds-words-last c = let e = c.requires.len in let a = c.loop-index.auto.words in omega (arith, e, a)

pub returns-clause-bits : goal.returns-clause-bits
unfolding row_len
returns-clause-bits c =
    let test = c.loop-index-test.false in
    let full = c.loop-index.invariant in
    bits_below c.loop-index.words c.args.count (c.loop-index.auto.words ∙ c.requires.len) (record { each = λ i h. full.each i (omega (arith, test, h)) })
