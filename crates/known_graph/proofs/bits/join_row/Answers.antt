use Rattle.known_graph.proofs.Prelude.{◌≡◌, ◌+◌, ◌*◌, ◌<◌, length, subst, arith}
use Rattle.known_graph.proofs.JoinedRows.{IsRowJoined, row_joined_none, row_joined_more, row_joined_bits}
use Rattle.known_graph.proofs.bits.join_row.Goals as goal

pub loop-i-init : goal.loop-i-init
loop-i-init c = row_joined_none c.args.len c.args.to c.args.from c.args.words.now

pub loop-i-preserved : goal.loop-i-preserved
loop-i-preserved c =
    let within : c.args.to * c.args.len + c.loop-i.i < length c.loop-i.words = omega arith in
    row_joined_more c.args.len c.args.to c.args.from c.loop-i.i c.args.words.now c.loop-i.words c.loop-i.invariant c.loop-i-test.true within

pub returns-clause-bits : goal.returns-clause-bits
returns-clause-bits c =
    let all : c.loop-i.i ≡ c.args.len = omega arith in
    row_joined_bits c.args.len c.args.to c.args.from c.args.words.now c.loop-i.words
    (subst (λ i. IsRowJoined c.args.len c.args.to c.args.from i c.args.words.now c.loop-i.words) all c.loop-i.invariant)
