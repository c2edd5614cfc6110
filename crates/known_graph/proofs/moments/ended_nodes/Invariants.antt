use Rattle.known_graph.proofs.EndedNodes.{AreEndedBelow}
use Rattle.known_graph.proofs.moments.ended_nodes.Given as goal

abbrev pub invariant-loop-number : goal.invariant-loop-number
invariant-loop-number l = AreEndedBelow l.history l.number l.ended.items
