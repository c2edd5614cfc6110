use Rattle.ledger_checks.proofs.Prelude.{◌≡◌, [], take, drop, are_shown_by, edges_kept, HasEdges}
use Rattle.ledger_checks.proofs.checking.are_shown.Given as goal

abbrev pub invariant-loop-entry : goal.invariant-loop-entry
invariant-loop-entry l = record {
  shown : are_shown_by l.polygraph (take l.entry-index l.entries) (drop l.entry-index l.entries) ≡ are_shown_by l.polygraph [] l.entries;
  kept : HasEdges l.kept (edges_kept l.polygraph (take l.entry-index l.entries));
}
