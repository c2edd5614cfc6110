use Rattle.cube_laws.proofs.Counted.{solved_before}
use Rattle.cube_laws.proofs.laws.solved_nodes_were_solved.Goals as goal

pub returns : goal.returns
returns c = λ p budget history legal. solved_before p budget history legal
