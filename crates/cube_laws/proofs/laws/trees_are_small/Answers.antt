use Rattle.cube_laws.proofs.Prelude.{length, arith, replay, opening_state, next_of}
use Rattle.cube_laws.proofs.Grown.{grown_opening, grown_after, few_nodes, whole_power}
use Rattle.cube_laws.proofs.laws.trees_are_small.Goals as goal

pub returns-clause-choices : goal.returns-clause-choices
returns-clause-choices c = λ p budget history legal.
    (let s = replay next_of (opening_state p budget) history in
    let g = grown_after p budget (opening_state p budget) (grown_opening p budget) history in
    let few = few_nodes (length p.choices) s.nodes in
    let w = g.weighs in
    let e = whole_power (length p.choices) in
    omega (arith, few, w, e))

pub returns-clause-closed : goal.returns-clause-closed
returns-clause-closed c = λ p budget history legal. (grown_after p budget (opening_state p budget) (grown_opening p budget) history).count
