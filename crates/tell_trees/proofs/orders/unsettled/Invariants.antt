use Rattle.tell_trees.proofs.Prelude.{◌≡◌, ◌++◌, length, take, drop, AreFlags, unsettled_from}
use Rattle.tell_trees.proofs.orders.unsettled.Given as goal

abbrev pub invariant-loop-entry : goal.invariant-loop-entry
invariant-loop-entry l = AreFlags (length l.orders) (take l.entry-index l.entries) l.settled.items

abbrev pub invariant-loop-choice : goal.invariant-loop-choice
invariant-loop-choice l = AreFlags (length l.orders) l.entries l.settled.items × (l.left.items ++ unsettled_from l.entries l.choice (drop l.choice l.orders) ≡ unsettled_from l.entries 0 l.orders)
