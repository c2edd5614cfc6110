use Rattle.cube_machine.proofs.Prelude.{ℕ, refl, subst, false≢true, ListsOnce, ArePlaces}
use Rattle.cube_machine.proofs.Orders.{fits_is, fits_not}
use Rattle.cube_machine.proofs.order.fits_graph.Goals as goal

pub returns-in-Some : goal.returns-in-Some
returns-in-Some c =
    let g = c.args.graph.now in let order = c.args.order.now in let places = c.in-Some.places.places in
    fits_is g order places c.keeps_known.result
    (subst (λ (n : ℕ). ListsOnce n order) c.nodes.ensures.count (c.in-Some.ensures.once.0 refl))
    (subst (λ (n : ℕ). ArePlaces n order places) c.nodes.ensures.count c.in-Some.ensures.places)
    c.nodes.ensures.graph c.keeps_known.ensures

pub returns-in-None : goal.returns-in-None
returns-in-None c =
    let g = c.args.graph.now in let order = c.args.order.now in
    fits_not g order (λ o. false≢true (c.in-None.ensures.once.1 (rw c.nodes.ensures.count o)))
