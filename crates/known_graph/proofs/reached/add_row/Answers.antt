use Rattle.known_graph.proofs.Prelude.{◌≡◌, ◌+◌, ◌*◌, ◌<◌, ◌++◌, length, get_or, refl, sym, ap, ◌∙◌, arith, reached_from, word_numbers}
use Rattle.known_graph.proofs.Fresh.{fresh_below, fresh_word, fresh_word_bit, fresh_more, fresh_all, add_numbers, either_more, behind_more, either_row}
use Rattle.known_graph.proofs.reached.add_row.Goals as goal

pub add_word-requires : goal.add_word-requires
add_word-requires c = record {
  nodes = λ b hb one. c.requires.nodes (c.loop-i.i * 64 + b)
      (fresh_word_bit c.args.row.now c.loop-i.i (get_or c.loop-i.seen c.loop-i.i 0) b (c.type_inv.seen c.loop-i.i).fits hb one);
}

pub loop-i-preserved : goal.loop-i-preserved
loop-i-preserved c =
    let i = c.loop-i.i in
    let row = c.args.row.now in
    let first = c.args.seen.now in
    let same : get_or c.loop-i.seen i 0 ≡ get_or first i 0 = c.loop-i.invariant.behind i (omega arith) in
    let within : i < length c.loop-i.seen = omega (arith, c.loop-i.auto.seen, c.requires.len, c.loop-i-test.true) in
    record {
      found = add_numbers c.args.found.now.items c.loop-i.found.items c.add_word.new.found.items c.args.from (fresh_below row first i) (word_numbers (i * 64) (fresh_word (get_or row i 0) (get_or c.loop-i.seen i 0))) (fresh_below row first (i + 1))
          c.loop-i.invariant.found c.in_ok-add_word.ensures.added
          (fresh_more row first i (c.loop-i.invariant.fits i) ∙ ap (λ s. fresh_below row first i ++ word_numbers (i * 64) (fresh_word (get_or row i 0) s)) (sym same));
      before = either_more first c.loop-i.seen row i _ within same refl c.loop-i.invariant.before;
      fits = c.loop-i.invariant.fits;
      behind = behind_more first c.loop-i.seen i _ c.loop-i.invariant.behind;
    }

pub returns-clause-added : goal.returns-clause-added
returns-clause-added c =
    let end : c.loop-i.i ≡ length c.args.row.now = omega arith in
    c.loop-i.invariant.found ∙ ap (λ ns. c.args.found.now.items ++ reached_from c.args.from ns) (fresh_all c.args.row.now c.args.seen.now c.loop-i.i end)

pub returns-clause-seen : goal.returns-clause-seen
returns-clause-seen c =
    let end : c.loop-i.i ≡ length c.args.row.now = omega arith in
    either_row c.args.seen.now c.args.row.now c.loop-i.seen c.requires.len c.loop-i.auto.seen (λ k h. c.loop-i.invariant.before k (omega (arith, end, h)))
