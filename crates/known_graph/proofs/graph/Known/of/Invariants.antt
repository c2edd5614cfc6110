use Rattle.known_graph.proofs.Prelude.{log_of}
use Rattle.known_graph.proofs.ArcSets.{HasArcsBelow}
use Rattle.known_graph.proofs.graph.Known.of.Given as goal

abbrev pub invariant-loop-number : goal.invariant-loop-number
invariant-loop-number l = HasArcsBelow (log_of l.history) l.number l.known
