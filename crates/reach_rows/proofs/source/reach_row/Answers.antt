use Rattle.reach_rows.proofs.Prelude.{◌≡◌, ◌||◌, ◌↔◌, ℕ, true, sym, ap, ◌∙◌, arith, Contains, bit_of, bit_of-zeros, row_len_small}
use Rattle.reach_rows.proofs.Spreading.{spread_row}
use Rattle.reach_rows.proofs.source.reach_row.Goals as goal

pub join_words-requires : goal.join_words-requires
join_words-requires c = record { len = omega (arith, c.row_words.ensures.len, row_len_small c.args.known.now.nodes c.nodes-invariant.ensures.graph.few) }

pub spread-requires-clause-row : goal.spread-requires-clause-row
spread-requires-clause-row c = omega (arith, c.join_words.ensures.len, row_len_small c.args.known.now.nodes c.nodes-invariant.ensures.graph.few)

pub spread-requires-clause-nodes : goal.spread-requires-clause-nodes
spread-requires-clause-nodes c k t =
    let row = c.row_words.result.now in
    let same : bit_of c.join_words.new.words k ≡ bit_of row k = c.join_words.ensures.bits k ∙ ap (λ b. b || bit_of row k) (bit_of-zeros 16 k) in
    (c.nodes-invariant.ensures.graph.joined (c.args.source, k) ((c.row_words.ensures.edges k).0 (sym same ∙ t))).1

pub returns-clause-reach : goal.returns-clause-reach
returns-clause-reach c =
    let row = c.row_words.result.now in
    let graph = c.args.known.now in
    let first = c.join_words.new.words in
    let same : (k : ℕ) → bit_of first k ≡ bit_of row k = λ k. c.join_words.ensures.bits k ∙ ap (λ b. b || bit_of row k) (bit_of-zeros 16 k) in
    let starts : (v : ℕ) → ((bit_of first v ≡ true) ↔ Contains graph.edges (c.args.source, v)) =
    λ v. (λ t. (c.row_words.ensures.edges v).0 (sym (same v) ∙ t), λ e. same v ∙ (c.row_words.ensures.edges v).1 e) in
    spread_row graph.edges first c.spread.new.row c.args.source starts c.spread.ensures.spread
