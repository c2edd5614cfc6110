use Rattle.census.proofs.Prelude.{◌≡◌, ◌++◌, ℕ, List, [], map, take, drop, ClientSession, txns_in, faults_behind, state_of, state_in, view_fault, KnowsWrites}
use Rattle.census.proofs.faults.add_faults.Given as goal

abbrev pub invariant-loop-op : goal.invariant-loop-op
invariant-loop-op l = record {
  told : (ss : List ClientSession) → KnowsWrites (txns_in ss) l.writes
      → map view_fault l.faults.items ++ faults_behind ss (take l.op-index l.ops) (drop l.op-index l.ops) ≡ map view_fault l.initial.faults.items ++ faults_behind ss [] l.ops;
  states : (k : List ℕ) → state_of l.states k ≡ state_in k (take l.op-index l.ops);
}
