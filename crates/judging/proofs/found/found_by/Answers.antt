use Rattle.judging.proofs.Prelude.{subst, Decides}
use Rattle.judging.proofs.found.found_by.Goals as goal

pub returns-in-Dead : goal.returns-in-Dead
returns-in-Dead c = λ m ss h.
    let d = subst (Decides m.deciding.budget ss) c.in-Dead.is h in
    record { none = d.0; room = tt; found = (c.in-Dead.field-0, d.1) }

pub returns-in-Refuted : goal.returns-in-Refuted
returns-in-Refuted c = λ m ss h.
    let d = subst (Decides m.deciding.budget ss) c.in-Refuted.is h in
    record { none = d.0; room = tt; found = (m.deciding.budget, c.in-Refuted.reduced, c.in-Refuted.tree, d.1) }
