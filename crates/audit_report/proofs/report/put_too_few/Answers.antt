use Rattle.audit_report.proofs.Prelude.{appended_twice, too_few}
use Rattle.audit_report.proofs.report.put_too_few.Goals as goal

pub returns : goal.returns
unfolding too_few
returns c = record { put = appended_twice _ _ _ _ _ (appended_twice _ _ _ _ _ (c.in_ok-put_number.ensures.put) (c.in_ok-put_number-2.ensures.put)) (c.in_ok-put.ensures.put) }
