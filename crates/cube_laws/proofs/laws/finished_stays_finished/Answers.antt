use Rattle.cube_laws.proofs.Grown.{finished_after}
use Rattle.cube_laws.proofs.laws.finished_stays_finished.Goals as goal

pub returns : goal.returns
returns c = λ s history t legal. finished_after s history t
