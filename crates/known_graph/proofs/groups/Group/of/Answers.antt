use Rattle.known_graph.proofs.Prelude.{◌||◌, replicate, refl, ap, ◌∙◌, arith, bit_of}
use Rattle.known_graph.proofs.Words.{only_bit, bit_of-zeros}
use Rattle.known_graph.proofs.Grouped.{group_alone, row_len_small}
use Rattle.known_graph.proofs.groups.Group.of.Goals as goal

pub join_words-requires : goal.join_words-requires
join_words-requires c = record { len = omega (arith, c.row_words.ensures.len, row_len_small c.args.known.now.nodes c.requires.graph.few) }

pub returns : goal.returns
returns c =
    let row = c.row_words.result.now in
    record {
      group = group_alone c.args.known.now c.args.v c.set_bit.new.words c.join_words.new.words row c.requires.graph
          (only_bit (replicate 16 0) c.set_bit.new.words 16 c.args.v c.get.result refl c.get.ensures.value c.set_bit.ensures.bits)
          (λ k. c.join_words.ensures.bits k ∙ ap (λ b. b || bit_of row k) (bit_of-zeros 16 k))
          c.row_words.ensures.edges;
    }
