use Rattle.headline.proofs.Answered.{clean_log}
use Rattle.tell_decision.proofs.nodes.nodes_of.Goals as goal

pub dead_items-requires : goal.dead_items-requires
dead_items-requires c =
    let dead = (rw c.in-Dead.is at c.requires.decided.decides).1 in
    record { clean = clean_log c.args.history.now c.committed-invariant.ensures.well_formed dead.unpruned.coalesced.anomaly; dead = dead }

pub tree_items-requires : goal.tree_items-requires
tree_items-requires c =
    let refuted = (rw c.in-Refuted.is at c.requires.decided.decides).1 in
    record { clean = clean_log c.args.history.now c.committed-invariant.ensures.well_formed refuted.history.unpruned.coalesced.anomaly; left = refuted.history; refutes = refuted.refutes }
