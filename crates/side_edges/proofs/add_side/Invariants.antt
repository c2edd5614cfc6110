use Rattle.std.proofs.Common.{◌≡◌, length, take}
use Rattle.side_edges.specs.Listed.{AddsSide}
use Rattle.side_edges.proofs.add_side.Given as goal

abbrev pub invariant-loop-edge : goal.invariant-loop-edge
invariant-loop-edge l = record {
  len : length l.lists ≡ length l.fn.lists;
  added : AddsSide l.choice l.side (take l.edge-index l.edges) l.fn.lists l.lists;
}
