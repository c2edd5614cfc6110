use Rattle.std.proofs.Common.{sym, ◌∙◌}
use Rattle.headline.proofs.Answered.{clean_log}
use Rattle.graph_bench.proofs.with_history.Goals as goal

pub with_clean-requires-clause-clean : goal.with_clean-requires-clause-clean
with_clean-requires-clause-clean g c κs within = clean_log c.args.history.now c.committed.ensures.well_formed (sym c.in_ok-classify.ensures.anomaly ∙ c.in-None.is)
