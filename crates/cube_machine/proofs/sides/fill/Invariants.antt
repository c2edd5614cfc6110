use Rattle.cube_machine.proofs.Prelude.{◌≡◌, ◌<◌, ◌||◌, ◌++◌, length, Edge, has_edge, cube_in, cube_edges}
use Rattle.cube_machine.proofs.sides.fill.Given as goal

abbrev pub invariant-loop-origin : goal.invariant-loop-origin
invariant-loop-origin l = record {
  within : l.at < length l.tree.nodes;
  nodes : l.graph.nodes ≡ l.polygraph.nodes;
  edges : (e : Edge) → (has_edge l.graph.edges e || has_edge (cube_edges l.polygraph (cube_in l.tree.nodes l.at)) e) ≡ has_edge (l.polygraph.known ++ cube_edges l.polygraph (cube_in l.tree.nodes l.id)) e;
}

abbrev pub decreases-loop-origin : goal.decreases-loop-origin
decreases-loop-origin l = l.at
