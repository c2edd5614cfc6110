use Rattle.tell_steps.proofs.Prelude.{◌≡◌, ◌<◌, ℕ, Some, slice_get, All, Contains, log_of, ChainOrder, edges_in, IsOrder}
use Rattle.tell_steps.proofs.decided.first_with.Given as goal

abbrev pub invariant-loop-place : goal.invariant-loop-place
invariant-loop-place l = All (IsOrder (log_of l.chains)) l.orders → (k : ℕ) (o : ChainOrder) → k < l.place → slice_get l.orders k ≡ Some o → Contains (edges_in (log_of l.chains) o) (l.a, l.b) → ⊥
