use Rattle.known_graph.proofs.Prelude.{IsSearch, work_left}
use Rattle.known_graph.proofs.groups.Search.through.Given as goal

abbrev pub invariant-loop-group : goal.invariant-loop-group
invariant-loop-group l = IsSearch l.known l.search

abbrev pub decreases-loop-group : goal.decreases-loop-group
decreases-loop-group l = work_left l.search
