use Rattle.tree_checks.proofs.Prelude.{◌≡◌, is_decided, cube_of}
use Rattle.tree_checks.proofs.checking.is_decided.Given as goal

abbrev pub invariant-loop-node : goal.invariant-loop-node
invariant-loop-node l = is_decided (cube_of l.nodes l.at) l.choice ≡ is_decided (cube_of l.nodes l.number) l.choice

abbrev pub decreases-loop-node : goal.decreases-loop-node
decreases-loop-node l = l.at
