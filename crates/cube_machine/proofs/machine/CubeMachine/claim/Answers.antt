use Rattle.cube_machine.proofs.Prelude.{Held}
use Rattle.cube_machine.proofs.Kept.{kept_marked}
use Rattle.cube_machine.proofs.machine.CubeMachine.claim.Goals as goal

pub invariant_of-self : goal.invariant_of-self
invariant_of-self c =
    let m = c.self.inside in
    kept_marked m.polygraph.now m.tree c.hold.new.self m.closed m.budget m.graph m.sides.items m.decided.items c.args.id (Held c.args.seat) c.self.invariant c.hold.ensures.nodes c.hold.ensures.room
