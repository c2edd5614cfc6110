use Rattle.audit_report.proofs.Prelude.{◌≡◌, ◌++◌, drop, lines_of}
use Rattle.audit_report.proofs.lines.put_lines.Given as goal

abbrev pub invariant-loop-line : goal.invariant-loop-line
invariant-loop-line l = l.out.items ++ lines_of (drop l.line-index l.lines) ≡ l.initial.out.items ++ lines_of l.lines
