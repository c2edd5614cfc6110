use Rattle.log_parts.proofs.Prelude.{◌≡◌, ◌&&◌, not, map, ℕ, nat_cmp, drop, contains, view_txn, ops_by, wrote}
use Rattle.log_parts.proofs.unwritten.take_out_of_txns.Given as goal

abbrev pub invariant-loop-txn : goal.invariant-loop-txn
invariant-loop-txn l = (wid : ℕ) → (contains nat_cmp l.wids wid && not (wrote (ops_by (map view_txn (drop l.txn-index l.txns))) wid)) ≡ (contains nat_cmp l.fn.wids wid && not (wrote (ops_by (map view_txn l.txns)) wid))
