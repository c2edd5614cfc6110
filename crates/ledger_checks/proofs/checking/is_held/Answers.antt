use Rattle.ledger_checks.proofs.Prelude.{edges_kept}
use Rattle.ledger_checks.proofs.KeptBits.{held_by_kept}
use Rattle.ledger_checks.proofs.checking.is_held.Goals as goal

pub returns-else-has_edge : goal.returns-else-has_edge
returns-else-has_edge c entries h =
    let p = c.args.polygraph.now in
    held_by_kept p c.known.result.now entries (c.args.u, c.args.v) c.has_edge.result c.has.result c.known.ensures c.has_edge.ensures.test c.if-has_edge.false (c.has.ensures (edges_kept p entries) h)
