use Rattle.tree_checks.proofs.Prelude.{◌≡◌, has_edge, cube_edges, cube_of}
use Rattle.tree_checks.proofs.checking.is_added.Given as goal

abbrev pub invariant-loop-node : goal.invariant-loop-node
invariant-loop-node l = has_edge (cube_edges l.polygraph (cube_of l.nodes l.at)) (l.u, l.v) ≡ has_edge (cube_edges l.polygraph (cube_of l.nodes l.number)) (l.u, l.v)

abbrev pub decreases-loop-node : goal.decreases-loop-node
decreases-loop-node l = l.at
