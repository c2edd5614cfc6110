use Rattle.audit_report.proofs.Prelude.{◌≡◌, ◌++◌, drop, behind_comma, part_object}
use Rattle.audit_report.proofs.object.put_more_parts.Given as goal

abbrev pub invariant-loop-part : goal.invariant-loop-part
invariant-loop-part l = l.out.items ++ behind_comma (part_object l.explain) (drop l.part-index l.parts) ≡ l.initial.out.items ++ behind_comma (part_object l.explain) l.parts
