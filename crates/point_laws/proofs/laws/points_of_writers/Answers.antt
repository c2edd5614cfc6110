use Rattle.point_laws.proofs.Points.{points_of_writers}
use Rattle.point_laws.proofs.laws.points_of_writers.Goals as goal

pub returns : goal.returns
returns c = points_of_writers
