use Rattle.session_history.proofs.Prelude.{◌≡◌, map, take, view_txn, with_reads, ops_ended, IsTaking, order_of, found_in}
use Rattle.session_history.proofs.taken.Taking.read_session.Given as goal

abbrev pub invariant-loop-txn : goal.invariant-loop-txn
invariant-loop-txn l = record {
  taking : IsTaking l.self;
  order : order_of l.self ≡ with_reads (found_in l.writes) (ops_ended l.outcome (map view_txn (take l.txn-index l.session.txns.items))) (order_of l.initial.self);
}
