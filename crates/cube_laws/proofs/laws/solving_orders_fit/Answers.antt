use Rattle.cube_laws.proofs.Prelude.{opening_state}
use Rattle.cube_laws.proofs.Grown.{grown_opening}
use Rattle.cube_laws.proofs.Alive.{each_solves_rightly}
use Rattle.cube_laws.proofs.laws.solving_orders_fit.Goals as goal

pub returns : goal.returns
returns c = λ p budget history legal. each_solves_rightly p budget (opening_state p budget) (grown_opening p budget) history legal
