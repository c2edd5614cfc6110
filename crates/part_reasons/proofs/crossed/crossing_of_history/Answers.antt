use Rattle.part_reasons.proofs.Prelude.{sym, ◌∙◌}
use Rattle.headline.proofs.Answered.{clean_log}
use Rattle.part_reasons.proofs.crossed.crossing_of_history.Goals as goal

pub crossing_of_clean-requires-clause-clean : goal.crossing_of_clean-requires-clause-clean
crossing_of_clean-requires-clause-clean c = clean_log c.args.history.now c.committed-invariant.ensures.well_formed (sym c.in_ok-classify.ensures.anomaly ∙ c.in-None.is)
