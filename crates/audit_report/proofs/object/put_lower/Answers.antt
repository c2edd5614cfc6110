use Rattle.audit_report.proofs.Prelude.{on_ok_weaker, appended_twice, lower_values}
use Rattle.audit_report.proofs.object.put_lower.Goals as goal

pub returns : goal.returns
unfolding lower_values
returns c =
    let old = c.args.out.now.items in
    let so_far_1 = appended_twice old _ _ c.put.new.out.items c.put_kept_or_null.new.out.items c.in_ok-put.ensures.put c.in_ok-put_kept_or_null.ensures.put in
    let so_far_2 = appended_twice old _ _ c.put_kept_or_null.new.out.items c.put-2.new.out.items so_far_1 c.in_ok-put-2.ensures.put in
    let so_far_3 = appended_twice old _ _ c.put-2.new.out.items c.put_kept_or_null-2.new.out.items so_far_2 c.in_ok-put_kept_or_null-2.ensures.put in
    let so_far_4 = appended_twice old _ _ c.put_kept_or_null-2.new.out.items c.put-3.new.out.items so_far_3 c.in_ok-put-3.ensures.put in
    let so_far_5 = appended_twice old _ _ c.put-3.new.out.items c.put_kept_or_null-3.new.out.items so_far_4 c.in_ok-put_kept_or_null-3.ensures.put in
    let so_far_6 = appended_twice old _ _ c.put_kept_or_null-3.new.out.items c.put-4.new.out.items so_far_5 c.in_ok-put-4.ensures.put in
    let so_far_7 = appended_twice old _ _ c.put-4.new.out.items c.put_kept_or_null-4.new.out.items so_far_6 c.in_ok-put_kept_or_null-4.ensures.put in
    let so_far_8 = appended_twice old _ _ c.put_kept_or_null-4.new.out.items c.put-5.new.out.items so_far_7 c.in_ok-put-5.ensures.put in
    record { put = on_ok_weaker c.put_kept_or_null-5.result (λ e. appended_twice old _ _ c.put-5.new.out.items c.put_kept_or_null-5.new.out.items so_far_8 e) c.put_kept_or_null-5.ensures.put }
