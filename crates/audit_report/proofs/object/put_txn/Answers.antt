use Rattle.audit_report.proofs.Prelude.{appended_twice}
use Rattle.audit_report.proofs.object.put_txn.Goals as goal

pub returns : goal.returns
returns c = record { put = appended_twice _ _ _ _ _ (appended_twice _ _ _ _ _ (appended_twice _ _ _ _ _ (appended_twice _ _ _ _ _ (c.in_ok-put_number.ensures.put) (c.in_ok-put_number-2.ensures.put)) (c.in_ok-put_number-3.ensures.put)) (c.in_ok-put_number-4.ensures.put)) (c.in_ok-put.ensures.put) }
