use Rattle.order_cnf.proofs.Prelude.{◌≡◌, ◌+◌, ◌≤◌, IsCursor, cursor_left, steps_left, Relation}
use Rattle.order_cnf.proofs.triples.Cursor.settle.Given as goal

abbrev pub invariant-loop-self : goal.invariant-loop-self
invariant-loop-self l = record {
  cursor : IsCursor l.end l.self;
  same : (r : Relation) → r.nodes + 1 ≡ l.end → cursor_left r l.self ≡ cursor_left r l.initial.self;
  steps : steps_left l.self ≤ steps_left l.initial.self;
}

abbrev pub decreases-loop-self : goal.decreases-loop-self
decreases-loop-self l = steps_left l.self
