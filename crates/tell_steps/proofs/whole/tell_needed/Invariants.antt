use Rattle.tell_steps.proofs.Prelude.{[], length, orders_of, AreBuilt, AllStand}
use Rattle.tell_steps.proofs.whole.tell_needed.Given as goal

abbrev pub invariant-dropping : goal.invariant-dropping
invariant-dropping l = AreBuilt l.chains [] l.fn.steps.items → AllStand l.chains (orders_of l.fn.steps.items) l.rounds → AreBuilt l.chains [] l.left.items × AllStand l.chains (orders_of l.left.items) l.rounds

abbrev pub decreases-dropping : goal.decreases-dropping
decreases-dropping l = length l.left.items
