use Rattle.cobra_calls.proofs.Prelude.{◌++◌, IfErr-weaker, on_ok_weaker, part_files, order_files, IsUnwritten}
use Rattle.cobra_calls.proofs.Cuts.{adds_both, cut_before, cut_behind}
use Rattle.cobra_calls.proofs.audits.put_files.Goals as goal

pub returns-in-Err-clause-unwritten : goal.returns-in-Err-clause-unwritten
returns-in-Err-clause-unwritten g c =
    let w = c.args.words.now in
    let old = g.F.NewFiles.files c.args.files.now in
    let new = g.F.NewFiles.files c.put_part.new.files in
    rw (← c.requires.map) (cut_before (part_files w.part c.args.map.now c.args.audited.now.part) (order_files w.order c.args.audited.now.order) old new c.in-Err.ending c.in-Err.ensures.unwritten)

pub returns-clause-put : goal.returns-clause-put
returns-clause-put g c =
    let part = part_files c.args.words.now.part c.args.map.now c.args.audited.now.part in
    let order = order_files c.args.words.now.order c.args.audited.now.order in
    let old = g.F.NewFiles.files c.args.files.now in
    let mid = g.F.NewFiles.files c.put_part.new.files in
    let new = g.F.NewFiles.files c.put_order.new.files in
    rw (← c.requires.map) (on_ok_weaker c.put_order.result (λ put. adds_both old mid new part order c.in_default.ensures.put put) c.put_order.ensures.put)

pub returns-clause-unwritten : goal.returns-clause-unwritten
returns-clause-unwritten g c =
    let part = part_files c.args.words.now.part c.args.map.now c.args.audited.now.part in
    let order = order_files c.args.words.now.order c.args.audited.now.order in
    let old = g.F.NewFiles.files c.args.files.now in
    let mid = g.F.NewFiles.files c.put_part.new.files in
    let new = g.F.NewFiles.files c.put_order.new.files in
    rw (← c.requires.map) (IfErr-weaker c.put_order.result (IsUnwritten order mid new) (IsUnwritten (part ++ order) old new) (λ e h. cut_behind part order old mid new e c.in_default.ensures.put h) c.put_order.ensures.unwritten)
