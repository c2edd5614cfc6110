use Rattle.part_reasons.proofs.Prelude.{◌≡◌, ◌++◌, map, view, view_txn, txns_in}
use Rattle.part_reasons.proofs.apart.all_txns.Given as goal

abbrev pub invariant-loop-session : goal.invariant-loop-session
invariant-loop-session l = record {
  whole : l.yielded ++ l.session-iterator.rest.items ≡ l.fn.sessions.items;
  txns : map view_txn l.all.items ≡ txns_in (map view l.yielded);
}
