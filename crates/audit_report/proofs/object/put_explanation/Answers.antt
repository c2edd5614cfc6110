use Rattle.audit_report.proofs.Prelude.{◌++◌, codes, on_ok_weaker, appended_twice, lines_value, explanation_value}
use Rattle.audit_report.proofs.object.put_explanation.Goals as goal

pub returns : goal.returns
unfolding explanation_value
returns c =
    let old = c.args.out.now.items in
    let front = codes ",\"explanation\":[" in
    let lines = lines_value c.args.text.now in
    let both = appended_twice old front lines c.put.new.out.items c.put_lines.new.out.items c.in_ok-put.ensures.put c.in_ok-put_lines.ensures.put in
    record { put = on_ok_weaker c.put-2.result (λ e. appended_twice old (front ++ lines) (codes "]") c.put_lines.new.out.items c.put-2.new.out.items both e) c.put-2.ensures.put }
