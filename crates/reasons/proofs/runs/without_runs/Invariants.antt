use Rattle.reasons.proofs.Prelude.{◌≡◌, ◌++◌, length, told_behind, without_runs}
use Rattle.reasons.proofs.runs.without_runs.Given as goal

abbrev pub invariant-loop-node : goal.invariant-loop-node
invariant-loop-node l = l.made.items ++ told_behind l.history l.last l.rest ≡ without_runs l.history l.line

abbrev pub decreases-loop-node : goal.decreases-loop-node
decreases-loop-node l = length l.rest
