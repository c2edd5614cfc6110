use Rattle.std.proofs.Common.{sym, ◌∙◌}
use Rattle.headline.proofs.Answered.{clean_log, none_serial}
use Rattle.reduction.proofs.steps.reduce.Goals as goal

pub reduce_clean-requires-clause-clean : goal.reduce_clean-requires-clause-clean
reduce_clean-requires-clause-clean g c κs within = clean_log c.args.history.now c.committed-invariant.ensures.well_formed (sym c.in_ok-anomaly.ensures.anomaly ∙ c.in-None.is)

pub returns-in-Some-clause-reduction : goal.returns-in-Some-clause-reduction
returns-in-Some-clause-reduction g c = record {
  none = none_serial c.args.history.now c.committed-invariant.ensures.well_formed c.in-Some.anomaly (sym c.in_ok-anomaly.ensures.anomaly ∙ c.in-Some.is);
}
