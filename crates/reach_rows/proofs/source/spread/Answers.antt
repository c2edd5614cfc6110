use Rattle.reach_rows.proofs.Prelude.{◌≡◌, replicate, ◌+◌, ◌↔◌, ℕ, true, eqb, ◌∙◌, subst, arith, Contains, or_left, or_right, eq-eqb, refl, bit_of, row_len_small, bit_of-zeros, node_word}
use Rattle.known_graph.proofs.Opened.{left_falls}
use Rattle.reach_rows.proofs.Spreading.{IsSpreadStep, spreading_none, spreading_more}
use Rattle.reach_rows.proofs.source.spread.Goals as goal

pub loop-number-init : goal.loop-number-init
loop-number-init c = spreading_none c.args.known.now c.args.row.now (replicate 16 0) (bit_of-zeros 16) c.requires.nodes

pub first_open-requires-clause-len : goal.first_open-requires-clause-len
first_open-requires-clause-len c = omega (arith, c.loop-number.auto.row, c.requires.few)

pub first_open-requires-clause-few : goal.first_open-requires-clause-few
first_open-requires-clause-few c = omega (arith, c.loop-number.auto.row, c.requires.few)

pub set_bit-requires : goal.set_bit-requires
set_bit-requires c =
    let n = c.args.known.now.nodes in
    let here = c.loop-number.invariant.nodes c.in-Some.number c.in-Some.ensures.found.0 in
    record { within = omega (arith, node_word n c.in-Some.number here, row_len_small n c.nodes-invariant.ensures.graph.few) }

pub loop-number-smaller : goal.loop-number-smaller
loop-number-smaller c =
    let k = c.in-Some.number in
    let here = c.loop-number.invariant.nodes k c.in-Some.ensures.found.0 in
    let done = bit_of c.loop-number.done in
    let next = bit_of c.set_bit.new.words in
    left_falls done next
    (λ j t. c.set_bit.ensures.bits j ∙ or_right (eqb j k) (done j) t)
    k c.in-Some.ensures.found.1
    (c.set_bit.ensures.bits k ∙ or_left (eqb k k) (done k) (eq-eqb k k refl))
    (c.args.known.now.nodes + 1) (omega (arith, here))

pub loop-number-preserved : goal.loop-number-preserved
loop-number-preserved c =
    let graph = c.args.known.now in
    let k = c.in-Some.number in
    let more = c.row_words.result.now in
    let step : IsSpreadStep graph k c.loop-number.row c.loop-number.done more c.join_words.new.words c.set_bit.new.words = record {
      here = c.in-Some.ensures.found.0;
      clear = c.in-Some.ensures.found.1;
      row_bits = c.join_words.ensures.bits;
      done_bits = c.set_bit.ensures.bits;
      edges = subst (λ u. (v : ℕ) → ((bit_of more v ≡ true) ↔ Contains graph.edges (u, v))) c.node.ensures.value c.row_words.ensures.edges;
    } in
    spreading_more graph c.args.row.now c.loop-number.row c.loop-number.done more c.join_words.new.words c.set_bit.new.words k c.nodes-invariant.ensures.graph c.loop-number.invariant step
