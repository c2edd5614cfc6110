use Rattle.branching.proofs.Prelude.{◌≡◌, ◌+◌, ℕ, List, Option, length, take, Choice, Side, AreRowsOf, Added, AreMarks, HaveLists}
use Rattle.branching.proofs.view.add_edges.Given as goal

abbrev pub invariant-loop-edge : goal.invariant-loop-edge
invariant-loop-edge l = record {
  edges : Added l.fn.graph l.graph (take l.edge-index l.edges);
  rows : AreRowsOf l.rows l.graph;
  lists : HaveLists (l.fn.graph.nodes + 1) l.marks;
  marks : (n : ℕ) (choices : List Choice) (sides : List (Option Side)) → length sides ≡ length choices → AreMarks n choices sides l.fn.graph.edges l.fn.marks → AreMarks n choices sides l.graph.edges l.marks;
}
