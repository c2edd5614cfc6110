use Rattle.audit_report.proofs.Prelude.{◌++◌, ap, ◌∙◌, codes, appended_twice, verdict_text, verdict_value}
use Rattle.audit_report.proofs.object.put_verdict.Goals as goal

pub returns : goal.returns
unfolding verdict_value
returns c =
    let old = c.args.out.now.items in
    let front = codes "{\"verdict\":\"" in
    let word = verdict_text c.args.level c.args.word in
    let spelled = c.in_ok-put-2.ensures.put ∙ ap (λ w. c.put.new.out.items ++ w) (c.as_bytes.ensures.value ∙ c.verdict_text.ensures.text) in
    record { put = appended_twice old (front ++ word) (codes "\"") c.put-2.new.out.items c.put-3.new.out.items (appended_twice old front word c.put.new.out.items c.put-2.new.out.items c.in_ok-put.ensures.put spelled) c.in_ok-put-3.ensures.put }
