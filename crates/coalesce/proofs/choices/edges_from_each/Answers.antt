use Rattle.coalesce.proofs.Prelude.{◌∙◌, ℕ, rules, tests, Edge}
use Rattle.std.proofs.lemmas.Iterator.{items_from_collect, YieldsList-from_slice, YieldsList-from_map}
use Rattle.std.proofs.lemmas.Iterator.Consumers.{YieldsList-at}
use Rattle.coalesce.proofs.choices.edges_from_each.Goals as goal

pub returns : goal.returns
returns c =
    let target = c.args.target in
    let edge_from : ℕ → Edge = λ u. (u, target) in
    let made = items_from_collect c.collect.result c.collect.ensures.ran
    (YieldsList-from_map _ edge_from (YieldsList-at c.map.ensures.source (YieldsList-from_slice c.args.sources.now (cc))) c.map.ensures.closure (λ x r q k. search (rules, tests))) in
    record { edges = c.many.ensures ∙ (rw c.in_ok-edges.was at made) }
