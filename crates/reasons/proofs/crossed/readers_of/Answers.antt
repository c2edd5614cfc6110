use Rattle.reasons.proofs.Prelude.{map, rules, get, IsFromIterResult, triple_cmp, by_versions, AreReaders}
use Rattle.std.proofs.lemmas.Iterator.{YieldsList-from_map, YieldsList-from_slice}
use Rattle.std.proofs.lemmas.Iterator.Adapters.{fact_from_collect}
use Rattle.std.proofs.lemmas.Iterator.Consumers.{YieldsList-at}
use Rattle.std.proofs.lemmas.Result.{IfOk-weaker}
use Rattle.reasons.proofs.Squares.{are_readers}
use Rattle.reasons.proofs.crossed.readers_of.Goals as goal

pub returns : goal.returns
returns c =
    let pairs = c.args.pairs.now in
    let made = fact_from_collect (IsFromIterResult triple_cmp) c.collect.result c.collect.ensures.ran (YieldsList-from_map _ by_versions (YieldsList-at c.map.ensures.source (YieldsList-from_slice pairs (cc))) c.map.ensures.closure (λ x r q k. search rules)) in
    record { readers = IfOk-weaker c.collect.result (IsFromIterResult triple_cmp (map by_versions pairs)) (λ m. AreReaders pairs (get triple_cmp m)) (λ m. are_readers pairs m) made }
