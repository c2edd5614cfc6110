use Rattle.anomalies.proofs.Prelude.{◌≡◌, ◌+◌, ◌++◌, ◌∷◌, ℕ, List, Option, [], take, sym, ap, ◌∙◌, subst, take_more, take_all, log_of, Clash, AreFirst, IsLeastClash, lesser}
use Rattle.anomalies.proofs.Clashes.{least_further, least_is_first}
use Rattle.anomalies.proofs.updates.least_clash.Goals as goal

pub loop-node-preserved : goal.loop-node-preserved
loop-node-preserved c =
    let log = log_of c.args.history.now in
    let writers = c.writers_of-node-items.result.now in
    let i = c.loop-node.node-index in
    let node = c.node-item.result in
    let further : take (i + 1) writers ≡ take i writers ++ node ∷ [] =
    take_more writers i node c.loop-node-test.true ∙ ap (λ d. take i writers ++ d ∷ []) (sym c.node-item.is) in
    let clash = c.clash_of-clash.ensures.clash (take i writers) c.loop-node.invariant.first in
    let P : List ℕ → Type 0 = λ l. AreFirst log c.args.key l c.clash_of-clash.new.updaters in
    let Q : List ℕ → Option Clash → Type 0 = λ l least. IsLeastClash log c.args.key l least in
    let least : c.lesser-least.result ≡ lesser c.loop-node.least _ = c.lesser-least.ensures.clash ∙ ap (lesser c.loop-node.least) clash in
    record {
      first = subst P (sym further) (c.clash_of-clash.ensures.updaters (take i writers) c.loop-node.invariant.first);
      least = subst (λ l. Q l c.lesser-least.result) (sym further)
          (subst (Q (take i writers ++ node ∷ [])) (sym least) (least_further log c.args.key node (take i writers) c.loop-node.least c.loop-node.invariant.least));
      below = c.clash_of-clash.ensures.keys c.loop-node.invariant.below;
    }

pub returns-clause-clash : goal.returns-clause-clash
returns-clause-clash c =
    let log = log_of c.args.history.now in
    let writers = c.writers_of-node-items.result.now in
    let all = take_all c.loop-node.node-index writers c.loop-node-test.false ∙ c.writers_of-node-items.ensures.writers in
    let Q : List ℕ → Type 0 = λ l. IsLeastClash log c.args.key l c.loop-node.least in
    least_is_first log c.args.key c.loop-node.least (subst Q all c.loop-node.invariant.least)
