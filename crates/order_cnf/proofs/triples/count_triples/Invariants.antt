use Rattle.order_cnf.proofs.Prelude.{◌≡◌, ◌≤◌, ◌+◌, length, IsCursor, cursor_left, steps_left, of_three, up_to}
use Rattle.order_cnf.proofs.triples.count_triples.Given as goal

abbrev pub invariant-loop-cursor : goal.invariant-loop-cursor
invariant-loop-cursor l = record {
  cursor : IsCursor l.end l.cursor;
  counted : l.count + length (cursor_left l.relation l.cursor) ≡ length (of_three l.relation (up_to l.start (l.relation.nodes + 1)));
  few : l.count ≤ l.most;
}

abbrev pub decreases-loop-cursor : goal.decreases-loop-cursor
decreases-loop-cursor l = steps_left l.cursor
