use Rattle.census.proofs.Prelude.{◌≡◌, ℕ, ◌+◌, List, map, take, count_by, Transaction, count_in, view_ref, KnowsUpdates, loses_at}
use Rattle.census.proofs.lost.add_all_lost_keys.Given as goal

abbrev pub invariant-loop-txn : goal.invariant-loop-txn
invariant-loop-txn l = (ts : List Transaction) → KnowsUpdates ts l.updates → (k : List ℕ)
    → count_in l.counts.table k ≡ count_in l.initial.counts.table k + count_by (loses_at ts k) (map view_ref (take l.txn-index l.lost))
