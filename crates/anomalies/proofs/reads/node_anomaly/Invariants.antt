use Rattle.anomalies.proofs.Prelude.{◌≡◌, take, anomaly_at, log_of, AreMarked}
use Rattle.anomalies.proofs.Scan.{first_behind}
use Rattle.anomalies.proofs.reads.node_anomaly.Given as goal

-- the first anomaly is the first of those from this operation on, and the marks say what stood before it
abbrev pub invariant-loop-place : goal.invariant-loop-place
invariant-loop-place l = record {
  first : first_behind (anomaly_at (log_of l.history)) l.node l.event-items 0 ≡ first_behind (anomaly_at (log_of l.history)) l.node l.event-items l.place;
  marked : AreMarked l.node (take l.place l.event-items) l.marks;
}
