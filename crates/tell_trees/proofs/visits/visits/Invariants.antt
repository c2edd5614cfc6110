use Rattle.tell_trees.proofs.Counted.{IsUnderway, load}
use Rattle.tell_trees.proofs.visits.visits.Given as goal

abbrev pub invariant-loop-node : goal.invariant-loop-node
invariant-loop-node l = IsUnderway l.history l.orders l.nodes l.waiting.items l.leaves l.rounds.items

abbrev pub decreases-loop-node : goal.decreases-loop-node
decreases-loop-node l = load l.nodes l.waiting.items
