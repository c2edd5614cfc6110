use Rattle.audit_report.proofs.Prelude.{◌++◌, ap, ◌∙◌, appended_twice, counts_text, lowest_part}
use Rattle.audit_report.proofs.report.put_behind_first.Goals as goal

pub returns : goal.returns
returns c =
    let told = c.args.told.now in
    let lowest = c.in_ok-put_lowest.ensures.put ∙ ap (λ l. c.put_last.new.out.items ++ lowest_part l told.lowest) c.weakest_of.ensures.weakest in
    let counts = c.in_ok-put_counts.ensures.put ∙ ap (λ n. c.put_lowest.new.out.items ++ counts_text told.totals n) c.part_size.ensures.size in
    let parts = appended_twice _ _ _ _ _ c.in_ok-put_weaker.ensures.put c.in_ok-put_middle.ensures.put in
    record { put = appended_twice _ _ _ _ _ (appended_twice _ _ _ _ _ (appended_twice _ _ _ _ _ parts c.in_ok-put_last.ensures.put) lowest) counts }
