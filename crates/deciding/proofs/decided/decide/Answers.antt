use Rattle.std.proofs.Common.{sym}
use Rattle.deciding.proofs.Deciding.{no_order}
use Rattle.deciding.proofs.decided.decide.Goals as goal

pub returns-in-Anomalous-clause-decides : goal.returns-in-Anomalous-clause-decides
returns-in-Anomalous-clause-decides g c =
    let reported = rw c.in-Anomalous.is at c.in_ok-anomaly.ensures.anomaly in
    (no_order c.args.history.now c.reduce.ensures.well_formed (rw c.in-Anomalous.is at c.in_ok-anomaly.ensures.reduction), sym reported)

pub returns-in-Cyclic-clause-decides : goal.returns-in-Cyclic-clause-decides
returns-in-Cyclic-clause-decides g c =
    let reported = rw c.in-Cyclic.is at c.in_ok-anomaly.ensures.anomaly in
    let cyclic = rw c.in-Cyclic.is at c.in_ok-anomaly.ensures.reduction in
    (no_order c.args.history.now c.reduce.ensures.well_formed cyclic.orders, record { none = sym reported; cyclic = cyclic })

pub returns-in-Dead-clause-decides : goal.returns-in-Dead-clause-decides
returns-in-Dead-clause-decides g c =
    let dead = rw c.in-Dead.is at c.in_ok-anomaly.ensures.reduction in
    (no_order c.args.history.now c.reduce.ensures.well_formed dead.orders, dead)
