use Rattle.level_checks.proofs.Prelude.{◌≢◌, ℕ, ◌<◌, List, take, AllByRecursion, Look, IsChain}
use Rattle.level_checks.proofs.looks.are_sources_clear.Given as goal

abbrev pub invariant-loop-look : goal.invariant-loop-look
invariant-loop-look l = (of : ℕ → ℕ) (bound : ℕ) (xs : List (ℕ × ℕ)) → IsChain of l.entries bound l.link xs
    → AllByRecursion (λ (look : Look). l.source < look.source → AllByRecursion (λ (x : ℕ × ℕ). x.0 ≢ look.source) xs) (take l.look-index l.front)
