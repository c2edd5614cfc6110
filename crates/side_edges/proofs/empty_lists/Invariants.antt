use Rattle.std.proofs.Common.{◌≡◌, length}
use Rattle.side_edges.specs.Listed.{AreEmpty}
use Rattle.side_edges.proofs.empty_lists.Given as goal

abbrev pub invariant-loop-made : goal.invariant-loop-made
invariant-loop-made l = record {
  count : length l.lists.items ≡ l.made;
  empty : AreEmpty l.lists.items;
}
