use Rattle.census.proofs.Prelude.{◌≡◌, ℕ, ◌+◌, List, IsStrictlySortedBy, keys_of, count_in}
use Rattle.census.proofs.Held.{ref_cmp}
use Rattle.census.proofs.Counted.{lost_at}
use Rattle.census.proofs.lost.add_lost_keys.Given as goal

abbrev pub invariant-loop-key : goal.invariant-loop-key
invariant-loop-key l = record {
  sorted : IsStrictlySortedBy ref_cmp (keys_of l.key-iterator);
  counted : (k : List ℕ) → count_in l.counts.table k + lost_at l.updates k l.key-iterator ≡ count_in l.initial.counts.table k + lost_at l.updates k l.initial.key-iterator;
}
