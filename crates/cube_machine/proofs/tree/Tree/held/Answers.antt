use Rattle.cube_machine.proofs.Prelude.{◌∙◌, ap, get_or, None, arith}
use Rattle.cube_machine.proofs.Seats.{slot_read}
use Rattle.cube_machine.proofs.tree.Tree.held.Goals as goal

pub returns : goal.returns
returns c =
    let i = c.self.inside in
    let n = c.get.ensures.value in let r = c.get.ensures.range in let f = c.from.ensures in
    record { held = rw (← c.self.view_is) (ap (λ k. get_or i.held k None) (f ∙ n) ∙ slot_read i.nodes.items i.open_nodes.items i.held i.solved c.args.seat c.self.invariant.0 (omega arith)) }
