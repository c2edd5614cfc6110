use Rattle.headline.proofs.Answered.{clean_log, none_of_some}
use Rattle.headline.proofs.laws.anomalies_decide.Goals as goal

pub returns : goal.returns
returns c = record { clean = clean_log; none = none_of_some }
