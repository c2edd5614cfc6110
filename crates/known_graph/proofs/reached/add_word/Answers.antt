use Rattle.known_graph.proofs.Prelude.{◌≡◌, ◌+◌, ◌<◌, ◌^◌, ◌++◌, sym, ap, ◌∙◌, arith, trailing_zeros, w64, bit_at-trailing_zeros, append-nil, reached_from, word_numbers}
use Rattle.known_graph.proofs.Fresh.{word_numbers-zero, word_numbers-first, without_bit, without_bit-lt, without_bit-bit, add_first}
use Rattle.known_graph.proofs.reached.add_word.Goals as goal

pub overflow_add-first : goal.overflow_add-first
overflow_add-first c =
    let z = bit_at-trailing_zeros w64 c.loop-rest.rest (omega arith) (omega arith) in
    let few = c.loop-rest.invariant.nodes (trailing_zeros w64 c.loop-rest.rest) z.0 z.1 in
    omega (arith, few)

pub node-requires : goal.node-requires
node-requires c =
    let z = bit_at-trailing_zeros w64 c.loop-rest.rest (omega arith) (omega arith) in
    record { few = c.loop-rest.invariant.nodes (trailing_zeros w64 c.loop-rest.rest) z.0 z.1 }

pub loop-rest-smaller : goal.loop-rest-smaller
loop-rest-smaller c =
    let z = bit_at-trailing_zeros w64 c.loop-rest.rest (omega arith) (omega arith) in
    without_bit-lt c.loop-rest.rest (trailing_zeros w64 c.loop-rest.rest) z.0 z.1

pub loop-rest-preserved : goal.loop-rest-preserved
loop-rest-preserved c =
    let rest = c.loop-rest.rest in
    let t = trailing_zeros w64 rest in
    let lo : 0 < rest = omega arith in
    let hi : rest < 2 ^ 64 = omega arith in
    let z = bit_at-trailing_zeros w64 rest lo hi in
    record {
      all = add_first c.loop-rest.found.items c.push.new.self.items _ c.args.from (c.args.first + t) c.node.result (word_numbers c.args.first rest) (word_numbers c.args.first (without_bit rest t))
          (word_numbers-first c.args.first rest lo hi) c.node.ensures.value c.in_ok-push.ensures.items c.loop-rest.invariant.all;
      nodes = λ b hb one. c.loop-rest.invariant.nodes b hb (without_bit-bit rest t b z.0 hb one);
    }

pub returns : goal.returns
returns c =
    let none : c.loop-rest.rest ≡ 0 = omega arith in
    record {
      added = sym (append-nil c.loop-rest.found.items)
          ∙ ap (λ ws. c.loop-rest.found.items ++ reached_from c.args.from ws) (sym (word_numbers-zero c.args.first))
          ∙ ap (λ r. c.loop-rest.found.items ++ reached_from c.args.from (word_numbers c.args.first r)) (sym none)
          ∙ c.loop-rest.invariant.all;
    }
