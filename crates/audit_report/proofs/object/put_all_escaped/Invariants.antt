use Rattle.audit_report.proofs.Prelude.{◌≡◌, ◌++◌, drop, escaped}
use Rattle.audit_report.proofs.object.put_all_escaped.Given as goal

abbrev pub invariant-loop-byte : goal.invariant-loop-byte
invariant-loop-byte l = l.out.items ++ escaped (drop l.byte-index l.text) ≡ l.initial.out.items ++ escaped l.text
