use Rattle.session_history.proofs.Prelude.{◌≡◌, take, with_reads, IsTaking, order_of, found_in}
use Rattle.session_history.proofs.taken.Taking.read_all.Given as goal

abbrev pub invariant-loop-op : goal.invariant-loop-op
invariant-loop-op l = record {
  taking : IsTaking l.self;
  order : order_of l.self ≡ with_reads (found_in l.writes) (take l.op-index l.ops) (order_of l.initial.self);
}
