use Rattle.prune_ledger.proofs.Prelude.{◌∙◌, ap, arith, slice_get_read, free_from, the_view}
use Rattle.prune_ledger.proofs.Marks.{kept_taken, state_taken}
use Rattle.prune_ledger.proofs.machine.PruneMachine.take.Goals as goal

pub invariant_of-self : goal.invariant_of-self
invariant_of-self c =
    let ms = c.self.inside.marks in
    rw c.handed_out.ensures
    (kept_taken c.self.inside.graph.nodes c.self.inside.choices.items ms.items c.self.inside.cursor c.in-Some.choice c.index-mark.result.now c.self.invariant
    (c.in-Some.ensures.first ∙ ap (free_from 0) c.deref.ensures.value)
    (let w = c.in-Some.ensures.within in let d = c.deref.ensures.value in rw d at w))

pub returns-clause-state : goal.returns-clause-state
returns-clause-state c =
    let ms = c.self.inside.marks in
    let at = slice_get_read ms.items ms.len c.in-Some.choice c.index-mark.result.now ms.ok.0 (let w = c.in-Some.ensures.within in let o = ms.ok.0 in omega arith) c.index-mark.ensures in
    rw (← c.self.view_is, c.handed_out.ensures) (state_taken (the_view c.self.inside) c.in-Some.choice c.index-mark.result.now (c.in-Some.ensures.first ∙ ap (free_from 0) c.deref.ensures.value) at)
