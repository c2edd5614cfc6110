use Rattle.cube_machine.proofs.Prelude.{◌≡◌, ◌∙◌, false, sym, subst, State, is_finished, Refuted}
use Rattle.cube_machine.proofs.Splits.{held_within}
use Rattle.cube_machine.proofs.Kept.{kept_closed}
use Rattle.cube_machine.proofs.machine.CubeMachine.refute.Goals as goal

pub is_cycle_at-requires : goal.is_cycle_at-requires
is_cycle_at-requires c = record { within = rw (← c.self.view_is) (held_within c.self.inside.tree.nodes c.args.seat c.in-Some.id (sym c.in-Some.ensures.held)) }

pub invariant_of-self : goal.invariant_of-self
invariant_of-self c =
    let m = c.self-2.inside in
    let going = subst (λ (s : State). is_finished s ≡ false) (sym (c.self-2.view_is ∙ c.is_cycle_at.ensures.same)) c.requires.going in
    kept_closed m.polygraph.now m.tree c.close.new.self m.closed m.budget m.graph m.sides.items m.decided.items c.in-Some.id Refuted c.self-2.invariant going c.close.ensures.nodes c.close.ensures.room
