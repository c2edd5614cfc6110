use Rattle.cube_laws.proofs.Prelude.{opening_state}
use Rattle.cube_laws.proofs.Grown.{grown_opening, grown_after}
use Rattle.cube_laws.proofs.laws.closings_keep_the_budget.Goals as goal

pub returns : goal.returns
returns c = λ p budget history legal. (grown_after p budget (opening_state p budget) (grown_opening p budget) history).within
