use Rattle.numbered_log.proofs.Prelude.{◌≡◌, ◌++◌, ℕ, List, Some, map, take, slice_get, flat_map, Transaction, view_txn, Op, settle, Committed, nodes_from, FindsAll, IsMade}
use Rattle.numbered_log.proofs.making.Making.add_session.Given as goal

abbrev pub invariant-loop-i : goal.invariant-loop-i
invariant-loop-i l = record {
  finds : FindsAll l.self.numbers;
  made : (numbers : List ℕ) (seen : List Op) (txns : List Committed) → IsMade numbers seen txns l.initial.self → slice_get numbers l.index ≡ Some l.session.number
      → IsMade numbers (seen ++ flat_map (λ (t : Transaction). t.ops) (take l.i (map view_txn l.session.txns.items))) (txns ++ nodes_from l.session.number 1 (take l.i (map (settle l.is_taken) (map view_txn l.session.txns.items)))) l.self;
}
