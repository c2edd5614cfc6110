use Rattle.cube_laws.proofs.Prelude.{arith, opening_state}
use Rattle.cube_laws.proofs.Closings.{closed_once, closed_count}
use Rattle.cube_laws.proofs.laws.nodes_are_closed_once.Goals as goal

pub returns-clause-once : goal.returns-clause-once
returns-clause-once c = λ p budget history legal. closed_once (opening_state p budget) history legal

pub returns-clause-count : goal.returns-clause-count
returns-clause-count c = λ p budget history legal. (let e = closed_count (opening_state p budget) history legal in omega (arith, e))
