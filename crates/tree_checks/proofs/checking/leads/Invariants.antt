use Rattle.tree_checks.proofs.Prelude.{◌≡◌, drop, leads, edges_under, cube_of}
use Rattle.tree_checks.proofs.checking.leads.Given as goal

abbrev pub invariant-loop-node : goal.invariant-loop-node
invariant-loop-node l = leads (edges_under l.polygraph (cube_of l.nodes l.number)) l.at (drop l.node-index l.steps) l.to ≡ leads (edges_under l.polygraph (cube_of l.nodes l.number)) l.fn.from l.steps l.to
