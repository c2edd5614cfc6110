use Rattle.cube_machine.proofs.Prelude.{◌≡◌, drop, is_among, leads_by}
use Rattle.cube_machine.proofs.cycles.leads.Given as goal

abbrev pub invariant-loop-node : goal.invariant-loop-node
invariant-loop-node l = let t = is_among l.known.edges l.lists l.flags in leads_by t l.at (drop l.node-index l.steps) l.to ≡ leads_by t l.fn.from l.steps l.to
