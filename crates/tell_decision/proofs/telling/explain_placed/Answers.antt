use Rattle.std.proofs.Common.{sym, subst}
use Rattle.reduction.specs.Outcome.{IsCyclicHistory}
use Rattle.headline.proofs.Answered.{clean_log}
use Rattle.tell_decision.proofs.telling.explain_placed.Goals as goal

pub explain_cycle-requires : goal.explain_cycle-requires
explain_cycle-requires c =
    let ss = c.args.log.now.history.now in
    let cycle = (rw c.in-Cyclic.is at c.requires.decided.decides).1 in
    record { clean = clean_log ss c.committed-invariant.ensures.well_formed cycle.none; cyclic = subst (IsCyclicHistory ss) (sym c.deref.ensures.value) cycle.cyclic }

pub explain_dead-requires : goal.explain_dead-requires
explain_dead-requires c =
    let dead = (rw c.in-Dead.is at c.requires.decided.decides).1 in
    record { clean = clean_log c.args.log.now.history.now c.committed-invariant.ensures.well_formed dead.unpruned.coalesced.anomaly; dead = dead }

pub explain_tree-requires : goal.explain_tree-requires
explain_tree-requires c =
    let refuted = (rw c.in-Refuted.is at c.requires.decided.decides).1 in
    record { clean = clean_log c.args.log.now.history.now c.committed-invariant.ensures.well_formed refuted.history.unpruned.coalesced.anomaly; left = refuted.history; refutes = refuted.refutes }
