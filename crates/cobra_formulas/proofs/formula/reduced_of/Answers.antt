use Rattle.cobra_formulas.proofs.Prelude.{sym}
use Rattle.cobra_formulas.proofs.Reduced.{contradicted_made, contradicted_faithful, made_from_anomaly, made_from_cycle, made_from_dead}
use Rattle.cobra_formulas.proofs.formula.reduced_of.Goals as goal

pub returns-in-Anomalous-clause-made : goal.returns-in-Anomalous-clause-made
returns-in-Anomalous-clause-made g c =
    let reported = rw c.in-Anomalous.is at c.in_ok-anomaly.ensures.anomaly in
    contradicted_made c.args.history.now c.number.result c.contradicted.result
    (made_from_anomaly c.args.history.now c.in-Anomalous.anomaly c.number.result (sym reported) c.number.ensures.number)
    c.contradicted.ensures.formula c.contradicted.ensures.basis

pub returns-in-Cyclic-clause-made : goal.returns-in-Cyclic-clause-made
returns-in-Cyclic-clause-made g c =
    let reported = rw c.in-Cyclic.is at c.in_ok-anomaly.ensures.anomaly in
    let cyclic = rw c.in-Cyclic.is at c.in_ok-anomaly.ensures.reduction in
    contradicted_made c.args.history.now 8 c.contradicted-in-Cyclic.result
    (made_from_cycle c.args.history.now (sym reported) c.in-Cyclic.field-0.items cyclic)
    c.contradicted-in-Cyclic.ensures.formula c.contradicted-in-Cyclic.ensures.basis

pub returns-in-Dead-clause-made : goal.returns-in-Dead-clause-made
returns-in-Dead-clause-made g c =
    contradicted_made c.args.history.now 9 c.contradicted-in-Dead.result
    (made_from_dead c.args.history.now c.in-Dead.field-0 (rw c.in-Dead.is at c.in_ok-anomaly.ensures.reduction))
    c.contradicted-in-Dead.ensures.formula c.contradicted-in-Dead.ensures.basis

pub returns-in-Anomalous-clause-faithful : goal.returns-in-Anomalous-clause-faithful
returns-in-Anomalous-clause-faithful g c =
    contradicted_faithful c.args.history.now c.contradicted.result c.reduce.ensures.well_formed (rw c.in-Anomalous.is at c.in_ok-anomaly.ensures.reduction) c.contradicted.ensures.formula

pub returns-in-Cyclic-clause-faithful : goal.returns-in-Cyclic-clause-faithful
returns-in-Cyclic-clause-faithful g c =
    let cyclic = rw c.in-Cyclic.is at c.in_ok-anomaly.ensures.reduction in
    contradicted_faithful c.args.history.now c.contradicted-in-Cyclic.result c.reduce.ensures.well_formed cyclic.orders c.contradicted-in-Cyclic.ensures.formula

pub returns-in-Dead-clause-faithful : goal.returns-in-Dead-clause-faithful
returns-in-Dead-clause-faithful g c =
    let history = rw c.in-Dead.is at c.in_ok-anomaly.ensures.reduction in
    contradicted_faithful c.args.history.now c.contradicted-in-Dead.result c.reduce.ensures.well_formed history.orders c.contradicted-in-Dead.ensures.formula
