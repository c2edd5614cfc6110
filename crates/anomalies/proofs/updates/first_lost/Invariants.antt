use Rattle.anomalies.proofs.Prelude.{◌≡◌, ◌+◌, Some, length, Anomaly, log_of, AreOfKeysBelow, lost_updates_of}
use Rattle.anomalies.proofs.Scan.{first_from}
use Rattle.anomalies.proofs.updates.first_lost.Given as goal

-- the first lost update is the first of those from this key on, and the entries are of earlier keys
abbrev pub invariant-loop-key : goal.invariant-loop-key
invariant-loop-key l =
    let log = log_of l.history in
    record {
      first : first_from (λ (a : Anomaly). Some a) (lost_updates_of log) 0 log.keys ≡ first_from (λ (a : Anomaly). Some a) (lost_updates_of log) l.key log.keys;
      nodes : length l.updaters.items ≡ log.nodes + 1;
      below : AreOfKeysBelow l.key l.updaters.items;
    }
