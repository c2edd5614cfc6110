use Rattle.branch_search.proofs.Prelude.{◌≡◌, All, end_of}
use Rattle.branch_search.proofs.retrace.retrace.Given as goal

abbrev pub invariant-loop : goal.invariant-loop
invariant-loop l =
    (l.view.polygraph ≡ l.fn.view.polygraph)
    × All (λ k. k.view.polygraph ≡ l.view.polygraph) l.trail.kept.items
    × (l.trail.kept ≡ l.fn.trail.kept)
    × (end_of l.at l.trail.ahead.items ≡ l.node)
