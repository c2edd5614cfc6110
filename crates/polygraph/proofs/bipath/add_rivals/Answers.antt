use Rattle.polygraph.proofs.Prelude.{rules, tests, rival_choice, is_other}
use Rattle.std.proofs.lemmas.Iterator.{YieldsList-from_slice, YieldsList-from_map}
use Rattle.std.proofs.lemmas.Iterator.Adapters.{items_from_extend}
use Rattle.std.proofs.lemmas.Iterator.Consumers.{YieldsList-from_filter, YieldsList-at}
use Rattle.polygraph.proofs.bipath.add_rivals.Goals as goal

pub returns-clause-ok : goal.returns-clause-ok
returns-clause-ok c =
    let added = items_from_extend c.extend.result c.extend.ensures.ran
    (YieldsList-from_map _ (rival_choice c.args.source c.args.reader) (YieldsList-at c.map.ensures.source
    (YieldsList-from_filter _ (is_other c.args.source c.args.reader) (YieldsList-at c.filter.ensures.source (YieldsList-from_slice c.args.writers.now (cc))) c.filter.ensures.closure (λ x r q k. search (rules, tests))))
    c.map.ensures.closure (λ x r q k. search (rules, tests))) in
    (rw c.in_ok-extend.was at added).0
