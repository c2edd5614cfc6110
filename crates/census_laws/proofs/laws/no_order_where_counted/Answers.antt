use Rattle.census_laws.proofs.Uncounted.{no_order}
use Rattle.census_laws.proofs.laws.no_order_where_counted.Goals as goal

pub returns : goal.returns
returns c = record { none = no_order }
