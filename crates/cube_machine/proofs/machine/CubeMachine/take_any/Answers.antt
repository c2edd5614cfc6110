use Rattle.cube_machine.proofs.Prelude.{sym, Held}
use Rattle.cube_machine.proofs.Splits.{last_ready}
use Rattle.cube_machine.proofs.Kept.{kept_marked}
use Rattle.cube_machine.proofs.machine.CubeMachine.take_any.Goals as goal

pub hold-requires-clause-ready : goal.hold-requires-clause-ready
hold-requires-clause-ready c = last_ready c.self.inside.tree.nodes c.in-Some.id (sym c.in-Some.ensures.last)

pub invariant_of-self : goal.invariant_of-self
invariant_of-self c =
    let m = c.self.inside in
    kept_marked m.polygraph.now m.tree c.hold.new.self m.closed m.budget m.graph m.sides.items m.decided.items c.in-Some.id (Held c.args.seat) c.self.invariant c.hold.ensures.nodes c.hold.ensures.room
