use Rattle.cube_machine.proofs.Prelude.{Open}
use Rattle.cube_machine.proofs.Kept.{kept_marked}
use Rattle.cube_machine.proofs.machine.CubeMachine.release.Goals as goal

pub invariant_of-self : goal.invariant_of-self
invariant_of-self c =
    let m = c.self.inside in
    kept_marked m.polygraph.now m.tree c.reopen.new.self m.closed m.budget m.graph m.sides.items m.decided.items c.in-Some.id Open c.self.invariant c.reopen.ensures.nodes c.reopen.ensures.room
