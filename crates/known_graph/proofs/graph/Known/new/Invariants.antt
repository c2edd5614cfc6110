use Rattle.known_graph.proofs.Edges.{IsBegun}
use Rattle.known_graph.proofs.graph.Known.new.Given as goal

abbrev pub invariant-loop-v : goal.invariant-loop-v
invariant-loop-v l = IsBegun l.fn.nodes l.v l.table
