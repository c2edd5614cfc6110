use Rattle.anomalies.proofs.Prelude.{◌+◌, take, log_of, AreFirst, AreOfKeysBelow, IsLeastClash}
use Rattle.anomalies.proofs.updates.least_clash.Given as goal

-- the entries and the least clash are those of the writers so far
abbrev pub invariant-loop-node : goal.invariant-loop-node
invariant-loop-node l = record {
  first : AreFirst (log_of l.history) l.key (take l.node-index l.node-items) l.updaters;
  least : IsLeastClash (log_of l.history) l.key (take l.node-index l.node-items) l.least;
  below : AreOfKeysBelow (l.key + 1) l.updaters;
}
