use Rattle.tell_steps.proofs.Prelude.{◌≡◌, take, map, posts_in, step_view, shown_by}
use Rattle.tell_steps.proofs.orders.steps_from.Given as goal

abbrev pub invariant-loop-entry : goal.invariant-loop-entry
invariant-loop-entry l = map step_view l.steps.items ≡ map (shown_by l.orders) (posts_in (take l.entry-index l.entries))
