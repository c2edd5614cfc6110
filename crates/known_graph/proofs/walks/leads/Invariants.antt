use Rattle.known_graph.proofs.Prelude.{◌≡◌, drop, leads}
use Rattle.known_graph.proofs.walks.leads.Given as goal

abbrev pub invariant-loop-node : goal.invariant-loop-node
invariant-loop-node l = leads l.graph.edges l.at (drop l.node-index l.steps) l.to ≡ leads l.graph.edges l.fn.from l.steps l.to
