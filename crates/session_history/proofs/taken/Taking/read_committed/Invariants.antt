use Rattle.session_history.proofs.Prelude.{◌≡◌, map, take, view, with_reads, committed_in_all, IsTaking, order_of, found_in}
use Rattle.session_history.proofs.taken.Taking.read_committed.Given as goal

abbrev pub invariant-loop-session : goal.invariant-loop-session
invariant-loop-session l = record {
  taking : IsTaking l.self;
  order : order_of l.self ≡ with_reads (found_in l.writes) (committed_in_all (map view (take l.session-index l.sessions))) (order_of l.initial.self);
}
