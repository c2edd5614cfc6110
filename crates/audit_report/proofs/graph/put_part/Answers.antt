use Rattle.audit_report.proofs.Prelude.{◌++◌, ap, ◌∙◌, on_ok_weaker, appended_twice, listed}
use Rattle.audit_report.proofs.graph.put_part.Goals as goal

pub returns : goal.returns
returns c =
    let old = c.args.out.now.items in
    let heading = appended_twice old _ _ c.put.new.out.items c.put_heading.new.out.items c.in_ok-put.ensures.put c.in_ok-put_heading.ensures.put in
    let comment = appended_twice old _ _ c.put_heading.new.out.items c.put-2.new.out.items heading c.in_ok-put-2.ensures.put in
    let txns = c.in_ok-put_listed.ensures.put ∙ ap (λ l. c.put-2.new.out.items ++ listed l) c.deref.ensures.value in
    let lines = appended_twice old _ _ c.put-2.new.out.items c.put_listed.new.out.items comment txns in
    record {
      put = on_ok_weaker c.put-3.result
          (λ e. appended_twice old _ _ c.put_listed.new.out.items c.put-3.new.out.items lines (e ∙ ap (λ l. c.put_listed.new.out.items ++ l) c.deref-2.ensures.value))
          c.put-3.ensures.put;
    }
