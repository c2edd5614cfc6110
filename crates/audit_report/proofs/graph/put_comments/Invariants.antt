use Rattle.audit_report.proofs.Prelude.{◌≡◌, ◌++◌, drop, flat_map}
use Rattle.audit_report.specs.Graph.{comment}
use Rattle.audit_report.proofs.graph.put_comments.Given as goal

abbrev pub invariant-loop-line : goal.invariant-loop-line
invariant-loop-line l = l.out.items ++ flat_map comment (drop l.line-index l.lines) ≡ l.initial.out.items ++ flat_map comment l.lines
