use Rattle.branching.proofs.Prelude.{◌≤◌, ◌∙◌, ap, subst, length, arith, slice_index, length-map, size_of}
use Rattle.branching.proofs.Counted.{counted}
use Rattle.branching.proofs.view.CubeView.fewest_edges.Goals as goal

pub returns-clause-fewest : goal.returns-clause-fewest
returns-clause-fewest c =
    let hs = c.self.inside.reduced.now.poly.choices in let e = c.self.invariant.counted in
    let n = ap length e ∙ length-map hs size_of in
    rw (← c.self.view_is)
    (λ k lt. subst (λ m. c.fewest.result ≤ m) (ap (λ l. slice_index l k) e ∙ counted hs k) (c.fewest.ensures.fewest k (omega (arith, lt, n))))
