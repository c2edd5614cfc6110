use Rattle.audit_report.proofs.Prelude.{◌≡◌, ◌++◌, drop, names_text}
use Rattle.audit_report.proofs.files.names_text.Given as goal

abbrev pub invariant-loop-number : goal.invariant-loop-number
invariant-loop-number l = l.out.items ++ names_text l.names (drop l.number-index l.order) ≡ names_text l.names l.order
