use Rattle.audit_command.proofs.Prelude.{◌≡◌, ◌++◌, map, drop, view, first_line, told_in, told_by, chosen_by}
use Rattle.audit_command.proofs.places.told_txns.Given as goal

abbrev pub invariant-loop-i : goal.invariant-loop-i
invariant-loop-i l = l.told.items ++ told_in (chosen_by l.flags) l.i l.line (map view (drop l.i l.sessions)) ≡ told_by l.flags (first_line l.fn.version) (map view l.sessions)
