use Rattle.cube_machine.proofs.Prelude.{◌∙◌}
use Rattle.cube_machine.proofs.Seats.{held_any}
use Rattle.cube_machine.proofs.tree.Tree.has_held.Goals as goal

pub returns : goal.returns
returns c =
    let i = c.self.inside in
    record { held = rw (← c.self.view_is) (c.has_some.ensures ∙ held_any i.nodes.items i.open_nodes.items i.held i.solved c.self.invariant.0) }
