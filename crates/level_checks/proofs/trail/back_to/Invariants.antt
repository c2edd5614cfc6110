use Rattle.level_checks.proofs.Prelude.{ℕ, List, IsChain, LeftAt}
use Rattle.level_checks.proofs.trail.back_to.Given as goal

abbrev pub invariant-loop-next : goal.invariant-loop-next
invariant-loop-next l = (of : ℕ → ℕ) (bound : ℕ) (xs : List (ℕ × ℕ)) → IsChain of l.entries bound l.link xs → LeftAt of l.entries l.left l.position xs

abbrev pub decreases-loop-next : goal.decreases-loop-next
decreases-loop-next l = l.left
