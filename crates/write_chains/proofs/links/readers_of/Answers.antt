use Rattle.write_chains.proofs.Prelude.{◌≡◌, ◌+◌, ◌++◌, ◌∷◌, [], take, cond, eqb, sym, ap, ◌∙◌, take_more, readers_among}
use Rattle.write_chains.proofs.Pushes.{lists_same}
use Rattle.write_chains.proofs.Gathered.{readers_push}
use Rattle.write_chains.proofs.links.readers_of.Goals as goal

pub loop-reading-preserved : goal.loop-reading-preserved
loop-reading-preserved c =
    let readings = c.args.readings.now in
    let i = c.loop-reading.reading-index in
    let reading = c.reading-item.result in
    let further : take (i + 1) readings ≡ take i readings ++ reading ∷ [] = take_more readings i reading c.loop-reading-test.true ∙ ap (λ d. take i readings ++ d ∷ []) (sym c.reading-item.is) in
    lists_same c.args.count _ _ c.push_at.new.lists
    (λ w lt. ap (λ s. readers_among w (take i readings) ++ cond (eqb s w) (reading.reader ∷ []) []) c.get.ensures.value
    ∙ sym (readers_push w (take i readings) reading) ∙ ap (readers_among w) (sym further))
    (c.in_ok-push_at.ensures.pushed c.args.count (λ w. readers_among w (take i readings)) c.loop-reading.invariant)
