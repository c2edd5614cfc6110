use Rattle.polygraph.proofs.Placed.{zeroes}
use Rattle.polygraph.proofs.places.no_places.Goals as goal

pub returns-clause-zero : goal.returns-clause-zero
returns-clause-zero c = λ v. zeroes 1001 v
