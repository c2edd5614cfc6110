use Rattle.audit_report.proofs.Prelude.{◌≡◌, ◌++◌, drop, parts_text}
use Rattle.audit_report.proofs.report.put_parts.Given as goal

abbrev pub invariant-loop-part : goal.invariant-loop-part
invariant-loop-part l = l.out.items ++ parts_text (drop l.part-index l.parts) ≡ l.initial.out.items ++ parts_text l.parts
