use Rattle.audit_report.proofs.Prelude.{◌≡◌, ◌++◌, drop, behind_comma, txn_object}
use Rattle.audit_report.proofs.object.put_more_txns.Given as goal

abbrev pub invariant-loop-txn : goal.invariant-loop-txn
invariant-loop-txn l = l.out.items ++ behind_comma txn_object (drop l.txn-index l.txns) ≡ l.initial.out.items ++ behind_comma txn_object l.txns
