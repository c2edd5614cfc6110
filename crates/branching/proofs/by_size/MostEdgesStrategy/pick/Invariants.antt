use Rattle.branching.proofs.Prelude.{◌≡◌, ◌-◌, ◌<◌, length, has_more, or_better, first_best, most_edges, open_past}
use Rattle.branching.proofs.by_size.MostEdgesStrategy.pick.Given as goal

abbrev pub invariant-loop-from : goal.invariant-loop-from
invariant-loop-from l = record {
  within : l.best < length l.view.polygraph.choices;
  all : most_edges l.view ≡ or_better (has_more l.view.polygraph.choices) l.best (first_best (has_more l.view.polygraph.choices) (open_past l.view.sides l.from));
}

abbrev pub decreases-loop-from : goal.decreases-loop-from
decreases-loop-from l = length l.view.polygraph.choices - l.from
