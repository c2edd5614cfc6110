use Rattle.known_graph.proofs.Prelude.{◌<◌, length, arith}
use Rattle.known_graph.proofs.Joined.{joined_none, joined_more, joined_bits}
use Rattle.known_graph.proofs.bits.join_words.Goals as goal

pub loop-i-init : goal.loop-i-init
loop-i-init c = joined_none c.args.words.now c.args.more.now

pub loop-i-preserved : goal.loop-i-preserved
loop-i-preserved c =
    let within : c.loop-i.i < length c.loop-i.words = omega arith in
    joined_more c.args.words.now c.args.more.now c.loop-i.words c.loop-i.i c.loop-i.invariant within

pub returns-clause-bits : goal.returns-clause-bits
returns-clause-bits c = joined_bits c.args.words.now c.args.more.now c.loop-i.words c.loop-i.i c.loop-i-test.false c.loop-i.invariant
