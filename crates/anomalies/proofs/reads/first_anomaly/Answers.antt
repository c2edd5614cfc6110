use Rattle.anomalies.proofs.Prelude.{◌<◌, ◌+◌, ℕ, List, [], sym, ap, ◌∙◌, arith, length, with_items_is, Place, anomaly_at, places_from, log_of}
use Rattle.anomalies.proofs.Marks.{below_next}
use Rattle.anomalies.proofs.Scan.{passed, stopped, first_from-one}
use Rattle.anomalies.proofs.reads.first_anomaly.Goals as goal

pub returns-in-Some : goal.returns-in-Some
returns-in-Some c =
    let log = log_of c.args.history.now in
    let turns : ℕ → List Place = λ v. places_from v [] (log.ops v) in
    let node = rw c.unwrap-node.ensures at c.new.ensures.value in
    let within : c.loop-number.number < log.nodes + 1 = omega (arith, c.committed-nodes.ensures.count) in
    record {
      anomaly = sym (sym (first_from-one (anomaly_at log) turns log.nodes) ∙ c.loop-number.invariant.first ∙ stopped (anomaly_at log) turns c.unwrap-node.result c.loop-number.number (log.nodes + 1) c.in-Some.anomaly node within c.in-Some.ensures.anomaly);
    }

pub loop-number-preserved : goal.loop-number-preserved
loop-number-preserved c =
    let log = log_of c.args.history.now in
    let turns : ℕ → List Place = λ v. places_from v [] (log.ops v) in
    let node = rw c.unwrap-node.ensures at c.new.ensures.value in
    let within : c.loop-number.number < log.nodes + 1 = omega (arith, c.committed-nodes.ensures.count) in
    let same = with_items_is c.loop-number.marks c.node_anomaly.new.marks (c.node_anomaly.auto.marks ∙ c.deref_mut.ensures.len) in
    record {
      first = c.loop-number.invariant.first ∙ passed (anomaly_at log) turns c.unwrap-node.result c.loop-number.number (log.nodes + 1) node within c.in_default.ensures.anomaly;
      keys = ap length same ∙ c.node_anomaly.auto.marks ∙ c.deref_mut.ensures.len ∙ c.loop-number.marks.ok.0 ∙ c.loop-number.invariant.keys;
      below = below_next c.unwrap-node.result c.loop-number.number _ c.node_anomaly.new.marks node same c.in_default.ensures.marks;
    }
