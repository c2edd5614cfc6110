use Rattle.known_graph.proofs.Prelude.{◌*◌}
use Rattle.known_graph.proofs.Opened.{AreDoneTo}
use Rattle.known_graph.proofs.bits.first_open.Given as goal

abbrev pub invariant-loop-i : goal.invariant-loop-i
invariant-loop-i l = AreDoneTo l.words l.done (l.i * 64)
