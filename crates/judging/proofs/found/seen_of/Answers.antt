use Rattle.judging.proofs.Prelude.{sym, ◌∙◌}
use Rattle.judging.proofs.Opened.{spent_open}
use Rattle.judging.proofs.found.seen_of.Goals as goal

pub seen_further-requires-clause-left : goal.seen_further-requires-clause-left
seen_further-requires-clause-left g c κs within =
    spent_open c.for_few_cubes.result c.args.history.now c.in_ok-seen.seen.found c.in_ok-seen.ensures (sym c.is_spent.ensures.spent ∙ c.if-is_spent.true)
