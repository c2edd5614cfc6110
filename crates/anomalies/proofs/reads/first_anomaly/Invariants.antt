use Rattle.anomalies.proofs.Prelude.{◌≡◌, ◌+◌, [], length, anomaly_at, places_from, log_of, AreBelow}
use Rattle.anomalies.proofs.Scan.{first_from}
use Rattle.anomalies.proofs.reads.first_anomaly.Given as goal

-- the first anomaly is the first of those from this node on, and the marks are of earlier nodes
abbrev pub invariant-loop-number : goal.invariant-loop-number
invariant-loop-number l =
    let log = log_of l.history in
    record {
      first : first_from (anomaly_at log) (λ v. places_from v [] (log.ops v)) 1 (log.nodes + 1) ≡ first_from (anomaly_at log) (λ v. places_from v [] (log.ops v)) l.number (log.nodes + 1);
      keys : length l.marks.items ≡ log.keys;
      below : AreBelow l.number l.marks.items;
    }
