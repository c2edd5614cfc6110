use Rattle.cube_machine.proofs.Prelude.{◌≡◌, ◌∙◌, false, sym, ap, subst, One, Two, State, is_finished, child, can_split, cube_at, Split, cube_in}
use Rattle.cube_laws.proofs.Grown.{splits_of}
use Rattle.cube_machine.proofs.Splits.{held_within}
use Rattle.cube_machine.proofs.Noted.{once_children}
use Rattle.cube_machine.proofs.Kept.{kept_split}
use Rattle.cube_machine.proofs.machine.CubeMachine.split.Goals as goal

pub can_split-requires : goal.can_split-requires
can_split-requires c = record { within = rw (← c.self.view_is) (held_within c.self.inside.tree.nodes c.args.seat c.in-Some.id (sym c.in-Some.ensures.held)) }

pub invariant_of-self : goal.invariant_of-self
invariant_of-self c =
    let m = c.self-2.inside in
    let going = subst (λ (s : State). is_finished s ≡ false) (sym (c.self-2.view_is ∙ c.can_split.ensures.same)) c.requires.going in
    let once = c.self-2.invariant.once.each c.in-Some.id in
    let can = ap (λ (s : State). can_split s (cube_at s c.in-Some.id) c.args.choice) (c.self-2.view_is ∙ c.can_split.ensures.same) ∙ sym c.can_split.ensures.split ∙ c.if-not-can_split.false in
    let free = (splits_of (record { polygraph = m.polygraph.now; nodes = m.tree.nodes; closed = m.closed; budget = m.budget }) (cube_in m.tree.nodes c.in-Some.id) c.args.choice can).free in
    kept_split m.polygraph.now m.tree c.split.new.self m.closed m.budget m.graph m.sides.items m.decided.items c.in-Some.id (Split c.args.choice) (child c.in-Some.id (cube_in m.tree.nodes c.in-Some.id) c.args.choice One) (child c.in-Some.id (cube_in m.tree.nodes c.in-Some.id) c.args.choice Two) c.self-2.invariant going (once_children c.in-Some.id c.args.choice (cube_in m.tree.nodes c.in-Some.id) once free) c.split.ensures.nodes c.split.ensures.room
