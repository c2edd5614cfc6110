use Rattle.audit_report.proofs.Prelude.{◌≡◌, ◌++◌, drop}
use Rattle.audit_report.specs.Report.{behind_comma}
use Rattle.audit_report.proofs.report.put_behind_comma.Given as goal

abbrev pub invariant-loop-txn : goal.invariant-loop-txn
invariant-loop-txn l = l.out.items ++ behind_comma (drop l.txn-index l.txns) ≡ l.initial.out.items ++ behind_comma l.txns
