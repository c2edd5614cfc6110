use Rattle.branching.proofs.Prelude.{◌≤◌, ◌∙◌, ap, subst, slice_index}
use Rattle.branching.proofs.Counted.{counted}
use Rattle.branching.proofs.view.CubeView.most_edges.Goals as goal

pub returns : goal.returns
returns c =
    let hs = c.self.inside.reduced.now.poly.choices in let e = c.self.invariant.counted in
    rw (← c.self.view_is)
    (record { most = λ k. subst (λ m. m ≤ c.most.result) (ap (λ l. slice_index l k) e ∙ counted hs k) (c.most.ensures.most k) })
