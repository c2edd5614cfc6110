use Rattle.point_laws.proofs.Orders.{orders_of_split}
use Rattle.point_laws.proofs.laws.orders_of_split.Goals as goal

pub returns : goal.returns
returns c = orders_of_split
