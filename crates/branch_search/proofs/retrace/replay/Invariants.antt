use Rattle.branch_search.proofs.Prelude.{◌≡◌, length, All, view_after}
use Rattle.branch_search.proofs.Retraced.{AreKept}
use Rattle.branch_search.proofs.retrace.replay.Given as goal

abbrev pub invariant-loop-step : goal.invariant-loop-step
invariant-loop-step l =
    (l.view.polygraph ≡ l.fn.view.polygraph)
    × All (λ k. k.view.polygraph ≡ l.view.polygraph) l.trail.kept.items
    × (view_after l.trail.ahead.items l.view ≡ view_after l.fn.trail.ahead.items l.fn.view)
    × AreKept l.fn.trail.kept.items l.trail.kept.items l.fn.trail.ahead.items l.trail.ahead.items l.fn.view l.view

abbrev pub decreases-loop-step : goal.decreases-loop-step
decreases-loop-step l = length l.trail.ahead.items
