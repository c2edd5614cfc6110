use Rattle.order_text.proofs.Prelude.{◌≡◌, ◌+◌, ◌≤◌, ◌++◌, length, lines, order_text, AreNodes, first_fault}
use Rattle.order_text.proofs.read.read_order.Given as goal

abbrev pub invariant-loop-rest : goal.invariant-loop-rest
invariant-loop-rest l = record {
  fault : first_fault l.history 1 (lines l.text) ≡ first_fault l.history l.line (lines l.rest);
  text : l.text ≡ order_text l.history l.nodes.items ++ l.rest;
  nodes : AreNodes l.history l.nodes.items;
  room : l.line + length l.rest ≤ length l.text + 1;
}

abbrev pub decreases-loop-rest : goal.decreases-loop-rest
decreases-loop-rest l = length l.rest
