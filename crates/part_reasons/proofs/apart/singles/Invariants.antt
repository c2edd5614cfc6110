use Rattle.part_reasons.proofs.Prelude.{◌≡◌, ◌++◌, map, length, view, view_txn}
use Rattle.part_reasons.specs.Apart as spec
use Rattle.part_reasons.proofs.apart.singles.Given as goal

abbrev pub invariant-loop-txn : goal.invariant-loop-txn
invariant-loop-txn l = record {
  whole : l.yielded ++ l.txn-iterator.rest.items ≡ l.fn.txns.items;
  singles : map view l.all.items ≡ spec.singles 1 (map view_txn l.yielded);
  count : length l.all.items ≡ length l.yielded;
}
