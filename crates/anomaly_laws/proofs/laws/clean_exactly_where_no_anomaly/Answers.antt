use Rattle.anomaly_laws.proofs.Clean.{clean_from_none, none_from_clean}
use Rattle.anomaly_laws.proofs.laws.clean_exactly_where_no_anomaly.Goals as goal

pub returns : goal.returns
returns c = record { clean = λ log numbered. (clean_from_none log numbered, none_from_clean log numbered) }
