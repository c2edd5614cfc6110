use Rattle.write_chains.proofs.Prelude.{◌≡◌, ℕ, List, ◌+◌, ◌++◌, ◌∷◌, [], true, false, not, take, sym, ap, ◌∙◌, subst, arith, map, is_some, filter, take_more, take_all, map-append, log_of, next, readers, ChainView, chain_view, chain_from}
use Rattle.write_chains.proofs.Prelude.{chains_in, group_view, KeyView, AreLists}
use Rattle.write_chains.proofs.Nexts.{writer_at, fit}
use Rattle.write_chains.proofs.Heads.{reads_nothing, heads_among, chain_is, head_more, head_passed}
use Rattle.write_chains.proofs.chain.key_chains.Goals as goal
use Rattle.write_chains.proofs.chain.key_chains.Goals.{then-is_none+in_ok-chain_of+in_ok-push, else-is_none}

pub chain_of-requires-clause-links : goal.chain_of-requires-clause-links
chain_of-requires-clause-links c = fit (log_of c.args.history.now) c.args.key c.args.links.now c.requires.links

pub chain_of-requires-then-is_none-clause-head : goal.chain_of-requires-then-is_none-clause-head
chain_of-requires-then-is_none-clause-head c =
    let k = writer_at (log_of c.args.history.now) c.args.key c.writers_of-writer-items.result.now c.loop-writer.writer-index c.writer-item.result c.writers_of-writer-items.ensures.writers c.loop-writer-test.true c.writer-item.is in
    omega (arith, k.high, c.requires.links.next.count)

pub chain_of-requires-then-is_none-clause-links : goal.chain_of-requires-then-is_none-clause-links
chain_of-requires-then-is_none-clause-links c = fit (log_of c.args.history.now) c.args.key c.args.links.now c.requires.links

pub loop-writer-preserved : goal.loop-writer-preserved
loop-writer-preserved c =
    let log = log_of c.args.history.now in
    let x = c.args.key in
    let writers = c.writers_of-writer-items.result.now in
    let i = c.loop-writer.writer-index in
    let v = c.writer-item.result in
    let now = c.loop-writer.others.items in
    let links = c.requires.links in
    let further : take (i + 1) writers ≡ take i writers ++ v ∷ [] = take_more writers i v c.loop-writer-test.true ∙ ap (λ d. take i writers ++ d ∷ []) (sym c.writer-item.is) in
    let test : not (is_some c.source_of.result) ≡ reads_nothing log x v = ap (λ o. not (is_some o)) c.source_of.ensures.source in
    elim c.if-is_none.branch [
      | then-is_none+in_ok-chain_of+in_ok-push w ↦
          let yes : reads_nothing log x v ≡ true = sym test ∙ ap not w.if-is_none.ensures in
          let view : chain_view w.in_ok-chain_of.field-0 ≡ chain_from log x v = chain_is log x v (chain_view w.in_ok-chain_of.field-0) (w.in_ok-chain_of.ensures.chain log.nodes (next log x) (readers log x) links.next links.readers) in
          ap (λ o. map chain_view o.items) w.others-is ∙ ap (map chain_view) w.in_ok-push.ensures.items ∙ map-append chain_view now (w.in_ok-chain_of.field-0 ∷ [])
          ∙ ap (λ y. map chain_view now ++ y ∷ []) view ∙ head_more log x (take i writers) v (map chain_view now) yes c.loop-writer.invariant
          ∙ ap (λ l. map (chain_from log x) (filter (reads_nothing log x) l)) (sym further)
      | else-is_none w ↦
          let no : reads_nothing log x v ≡ false = sym test ∙ ap not w.if-is_none.ensures in
          ap (λ o. map chain_view o.items) w.others-is ∙ head_passed log x (take i writers) v (map chain_view now) no c.loop-writer.invariant
          ∙ ap (λ l. map (chain_from log x) (filter (reads_nothing log x) l)) (sym further)
    ]

pub returns : goal.returns
returns c =
    let log = log_of c.args.history.now in
    let x = c.args.key in
    let writers = c.writers_of-writer-items.result.now in
    let links = c.requires.links in
    let first : chain_view c.in_ok-initial.initial ≡ chain_from log x 0 = chain_is log x 0 (chain_view c.in_ok-initial.initial) (c.in_ok-initial.ensures.chain log.nodes (next log x) (readers log x) links.next links.readers) in
    let rest = c.loop-writer.invariant ∙ ap (λ l. map (chain_from log x) (filter (reads_nothing log x) l)) (take_all c.loop-writer.writer-index writers c.loop-writer-test.false ∙ c.writers_of-writer-items.ensures.writers)
    ∙ ap (map (chain_from log x)) (heads_among log x) in
    let groups = c.in_ok-readers.ensures.groups (log.nodes + 1) (readers log x) (subst (AreLists (log.nodes + 1) (readers log x)) (sym c.deref.ensures.value) links.readers) in
    let key : ChainView → List ChainView → List (ℕ × List ℕ) → KeyView = λ y ys rs. record { initial = y; others = ys; readers = rs } in
    let others = map chain_view c.loop-writer.others.items in
    let held = map group_view c.in_ok-readers.readers.items in
    record {
      chains = ap (λ y. key y others held) first ∙ ap (λ ys. key (chain_from log x 0) ys held) rest ∙ ap (key (chain_from log x 0) (chains_in log x)) groups;
    }
