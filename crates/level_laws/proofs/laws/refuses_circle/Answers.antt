use Rattle.level_laws.proofs.Circles.{refuses_circle}
use Rattle.level_laws.proofs.laws.refuses_circle.Goals as goal

pub returns : goal.returns
returns c = refuses_circle
