use Rattle.order_cnf.proofs.Prelude.{◌≡◌, ◌+◌, IsCursor, cursor_left, steps_left}
use Rattle.order_cnf.proofs.triples.Cursor.next_pair.Given as goal

abbrev pub invariant-loop-one : goal.invariant-loop-one
invariant-loop-one l = record {
  cursor : IsCursor (l.relation.nodes + 1) l.self;
  same : cursor_left l.relation l.self ≡ cursor_left l.relation l.initial.self;
}

abbrev pub decreases-loop-one : goal.decreases-loop-one
decreases-loop-one l = steps_left l.self
