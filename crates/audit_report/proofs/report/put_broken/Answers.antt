use Rattle.audit_report.proofs.Prelude.{on_ok_weaker, appended_twice}
use Rattle.audit_report.proofs.report.put_broken.Goals as goal

pub returns : goal.returns
returns c =
    let old = c.args.out.now.items in
    let rule = appended_twice old _ _ c.put.new.out.items c.put_rule.new.out.items c.in_ok-put.ensures.put c.in_ok-put_rule.ensures.put in
    record { put = on_ok_weaker c.put_part.result (λ e. appended_twice old _ _ c.put_rule.new.out.items c.put_part.new.out.items rule e) c.put_part.ensures.put }
