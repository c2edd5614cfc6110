use Rattle.std.proofs.Common.{◌≡◌, ◌+◌, length, take}
use Rattle.side_edges.specs.Listed.{HasSides}
use Rattle.side_edges.proofs.side_edges.Given as goal

abbrev pub invariant-loop-number : goal.invariant-loop-number
invariant-loop-number l = record {
  len : length l.table ≡ l.polygraph.nodes + 1;
  sides : HasSides (take l.number l.choices) l.table;
}
