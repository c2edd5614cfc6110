use Rattle.branch_search.proofs.Prelude.{◌≡◌, All}
use Rattle.branch_search.proofs.worker.take_turns.Given as goal

abbrev pub invariant-loop : goal.invariant-loop
invariant-loop g l = (l.seat.number ≡ l.fn.seat.number) × (l.place.view.polygraph ≡ l.task.reduced.now.poly) × All (λ k. k.view.polygraph ≡ l.place.view.polygraph) l.place.trail.kept.items
