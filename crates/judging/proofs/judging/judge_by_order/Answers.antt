use Rattle.judging.proofs.Prelude.{List, map, subst, IfSome, ClientSession, view, IsSerialOrder, IsLog, IsNumbered}
use Rattle.judging.proofs.Levels.{judged_is_log, order_of_judged}
use Rattle.judging.proofs.judging.judge_by_order.Goals as goal

pub returns-in-Some : goal.returns-in-Some
returns-in-Some g c =
    let ss = map view c.args.sessions.now in
    let judged = map view c.args.judged.now in
    let level = c.args.means.now.level in
    let found = subst (λ found. IfSome found (λ order. (judged : List ClientSession) → IsLog judged → IsNumbered judged c.args.log.now → IsSerialOrder judged order.items)) c.in-Some.is c.in_ok-order.ensures in
    let serial = found judged (judged_is_log level ss judged c.requires.log c.requires.judged) c.requires.numbered in
    order_of_judged level ss judged c.in-Some.order.items c.requires.log c.requires.judged serial
