use Rattle.order_cnf.proofs.Prelude.{◌≡◌, ◌≤◌, IsCursor, cursor_left, steps_left}
use Rattle.order_cnf.proofs.triples.Cursor.advance.Given as goal

abbrev pub invariant-loop-third : goal.invariant-loop-third
invariant-loop-third l = record {
  cursor : IsCursor l.end l.self;
  same : cursor_left l.relation l.self ≡ cursor_left l.relation l.initial.self;
  steps : steps_left l.self ≤ steps_left l.initial.self;
}

abbrev pub decreases-loop-third : goal.decreases-loop-third
decreases-loop-third l = steps_left l.self
