use Rattle.cube_machine.proofs.Prelude.{◌≡◌, ◌||◌, take, Edge, has_edge}
use Rattle.cube_machine.proofs.sides.add_all.Given as goal

abbrev pub invariant-loop-edge : goal.invariant-loop-edge
invariant-loop-edge l = record {
  nodes : l.graph.nodes ≡ l.fn.graph.nodes;
  edges : (e : Edge) → has_edge l.graph.edges e ≡ (has_edge l.fn.graph.edges e || has_edge (take l.edge-index l.edges) e);
}
