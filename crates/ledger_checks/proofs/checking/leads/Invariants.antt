use Rattle.ledger_checks.proofs.Prelude.{◌≡◌, List, drop, leads_by, edges_kept, HasEdges, LedgerEntry}
use Rattle.ledger_checks.proofs.checking.leads.Given as goal

abbrev pub invariant-loop-node : goal.invariant-loop-node
invariant-loop-node l = (entries : List LedgerEntry) → HasEdges l.kept (edges_kept l.polygraph entries)
    → leads_by l.polygraph entries l.at (drop l.node-index l.steps) l.to ≡ leads_by l.polygraph entries l.fn.from l.steps l.to
