use Rattle.order_cnf.proofs.Prelude.{◌≡◌, ◌≤◌, ◌+◌, length}
use Rattle.order_cnf.proofs.sides.Sides.count_after.Given as goal

abbrev pub invariant-loop-clause : goal.invariant-loop-clause
invariant-loop-clause l = record {
  counted : l.count + length l.self ≡ l.counted + length l.initial.self;
  few : l.count ≤ l.most;
}

abbrev pub decreases-loop-clause : goal.decreases-loop-clause
decreases-loop-clause l = length l.self
