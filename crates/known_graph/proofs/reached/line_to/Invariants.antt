use Rattle.known_graph.proofs.Prelude.{◌<◌, List, length, Contains, Edge, node_at, IsTree}
use Rattle.known_graph.proofs.Lines.{Behind}
use Rattle.known_graph.proofs.reached.line_to.Given as goal

abbrev pub invariant-loop-at : goal.invariant-loop-at
invariant-loop-at l = record {
  within : l.at < length l.found;
  line : (edges : List Edge) → IsTree edges l.found → Contains edges (node_at l.found l.place, l.fn.end) → Behind edges (node_at l.found l.at) l.fn.end l.line.items;
}

abbrev pub decreases-loop-at : goal.decreases-loop-at
decreases-loop-at l = l.at
