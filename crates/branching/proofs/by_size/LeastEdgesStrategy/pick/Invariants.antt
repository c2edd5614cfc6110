use Rattle.branching.proofs.Prelude.{◌≡◌, ◌-◌, ◌<◌, length, has_fewer, or_better, first_best, least_edges, open_past}
use Rattle.branching.proofs.by_size.LeastEdgesStrategy.pick.Given as goal

abbrev pub invariant-loop-from : goal.invariant-loop-from
invariant-loop-from l = record {
  within : l.best < length l.view.polygraph.choices;
  all : least_edges l.view ≡ or_better (has_fewer l.view.polygraph.choices) l.best (first_best (has_fewer l.view.polygraph.choices) (open_past l.view.sides l.from));
}

abbrev pub decreases-loop-from : goal.decreases-loop-from
decreases-loop-from l = length l.view.polygraph.choices - l.from
