use Rattle.cube_machine.proofs.Prelude.{◌∙◌, ap, length, ◌-◌, slice_get}
use Rattle.cube_machine.proofs.Places.{last_is}
use Rattle.cube_machine.proofs.tree.Tree.last_open.Goals as goal

pub returns : goal.returns
returns c =
    let i = c.self.inside in
    record { last = rw (← c.self.view_is) (c.copied.ensures ∙ c.last.ensures.value ∙ ap (λ l. slice_get l (length l - 1)) (c.deref.ensures.value ∙ c.self.invariant.0.listed) ∙ last_is i.nodes.items) }
